use Rattle.std.proofs.Common.{◌≡◌, ℕ, ◌+◌, ◌*◌, ◌<◌, ◌≤◌, false, length, get_or}
use Rattle.decisions.proofs.tables.told_cells.Given as goal

abbrev pub invariant-loop-at : goal.invariant-loop-at
invariant-loop-at l = record {
  sized : length l.cells.items ≡ 2 * length l.literals + 1;
  before : (p : ℕ) → p < l.at → get_or l.cells.items p false ≡ l.below;
  behind : (p : ℕ) → l.at ≤ p → p < length l.cells.items → get_or l.cells.items p false ≡ l.above;
}
