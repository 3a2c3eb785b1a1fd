use Rattle.std.proofs.Common.{◌≡◌, ◌+◌, length}
use Rattle.json_strings.proofs.scalars.count_of.Given as goal

abbrev pub invariant-loop-scalars : goal.invariant-loop-scalars
invariant-loop-scalars l = l.count + length l.scalars ≡ length l.fn.scalars

abbrev pub decreases-loop-scalars : goal.decreases-loop-scalars
decreases-loop-scalars l = length l.scalars
