use Rattle.std.proofs.Common.{◌<◌, ◌≤◌, ℕ, IsTrue}
use Rattle.structural_index.specs.Places.{is_lone}
use Rattle.text_places.proofs.surrogates.lone_surrogate.Given as goal

abbrev pub invariant-loop-at : goal.invariant-loop-at
invariant-loop-at l = (1 ≤ l.at) × ((k : ℕ) → k < l.at → IsTrue (is_lone l.text k) → ⊥)
