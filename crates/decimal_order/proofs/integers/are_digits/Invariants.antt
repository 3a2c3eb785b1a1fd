use Rattle.std.proofs.Common.{length}
use Rattle.decimal_order.specs.Number.{AreDigits}
use Rattle.decimal_order.proofs.integers.are_digits.Given as goal

abbrev pub invariant-loop-chunk : goal.invariant-loop-chunk
invariant-loop-chunk l = (AreDigits l.left → AreDigits l.text) × (AreDigits l.text → AreDigits l.left)

abbrev pub decreases-loop-chunk : goal.decreases-loop-chunk
decreases-loop-chunk l = length l.left
