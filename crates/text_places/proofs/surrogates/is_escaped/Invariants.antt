use Rattle.std.proofs.Common.{◌≡◌, ◌≤◌, ◌+◌, ◌-◌}
use Rattle.structural_index.specs.Places.{run_before}
use Rattle.text_places.proofs.surrogates.is_escaped.Given as goal

abbrev pub invariant-loop-start : goal.invariant-loop-start
invariant-loop-start l = (l.start ≤ l.at) × (run_before l.text l.at ≡ (l.at - l.start) + run_before l.text l.start)

abbrev pub decreases-loop-start : goal.decreases-loop-start
decreases-loop-start l = l.start
