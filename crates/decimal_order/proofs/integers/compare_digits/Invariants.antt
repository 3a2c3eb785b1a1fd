use Rattle.std.proofs.Common.{◌≡◌, length}
use Rattle.std.specs.declared.cmp.Ordering.{Ordering}
use Rattle.decimal_order.specs.Number.{AreDigits}
use Rattle.decimal_order.specs.Value.{digits_value}
use Rattle.decimal_order.specs.Places.{Ranks}
use Rattle.decimal_order.proofs.integers.compare_digits.Given as goal

abbrev pub invariant-loop-a : goal.invariant-loop-a
invariant-loop-a l = record {
  same_length : length l.x_left ≡ length l.y_left;
  x_digits : AreDigits l.x_left;
  y_digits : AreDigits l.y_left;
  left_decides : (o : Ordering) → Ranks o (digits_value l.x_left) (digits_value l.y_left) → Ranks o (digits_value l.x) (digits_value l.y);
}

abbrev pub decreases-loop-a : goal.decreases-loop-a
decreases-loop-a l = length l.x_left
