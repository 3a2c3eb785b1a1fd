use Rattle.std.proofs.Common.{◌≤◌}
use Rattle.tape_values.proofs.fronts.backslashes_start.Given as goal

abbrev pub invariant-loop-at : goal.invariant-loop-at
invariant-loop-at l = l.at ≤ l.end

abbrev pub decreases-loop-at : goal.decreases-loop-at
decreases-loop-at l = l.at
