use Rattle.std.proofs.Common.{◌≡◌, ℕ, ◌<◌, length, get_or, map}
use Rattle.decisions.specs.Places.{AreCells, from_place}
use Rattle.decisions.specs.Truth.{truth_by}
use Rattle.decisions.specs.Views.{constant_value, test_view}
use Rattle.decisions.proofs.tables.tables.Given as goal

abbrev pub invariant-loop-kind : goal.invariant-loop-kind
invariant-loop-kind l = record {
  count : length l.made.items ≡ l.kind;
  right : (k : ℕ) (d : _) → k < length l.made.items → AreCells (length l.literals) (get_or l.made.items k d).items (λ p. truth_by (from_place (map constant_value l.literals) k p) l.relation (test_view l.test));
}
