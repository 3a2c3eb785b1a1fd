use Rattle.std.proofs.Common.{◌≤◌}
use Rattle.tape_values.proofs.fronts.settled_place.Given as goal

abbrev pub invariant-loop : goal.invariant-loop
invariant-loop l = l.end ≤ l.place
