use Rattle.std.proofs.Common.{◌≡◌, ℕ, ◌<◌, ◌≤◌, not, false, get_or}
use Rattle.decisions.proofs.tables.turn.Given as goal

abbrev pub invariant-loop-i : goal.invariant-loop-i
invariant-loop-i l = record {
  before : (k : ℕ) → k < l.i → get_or l.cells k false ≡ not (get_or l.fn.cells k false);
  behind : (k : ℕ) → l.i ≤ k → get_or l.cells k false ≡ get_or l.fn.cells k false;
}
