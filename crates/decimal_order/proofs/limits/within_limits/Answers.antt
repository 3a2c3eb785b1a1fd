use Rattle.decimal_order.proofs.WithinLimits.{limits_test}
use Rattle.decimal_order.proofs.limits.within_limits.Goals as goal

pub returns-then-decimal-le-MAX_LENGTH : goal.returns-then-decimal-le-MAX_LENGTH
returns-then-decimal-le-MAX_LENGTH c =
    rw (← c.decimal.view_is) (limits_test c.decimal.inside.text.now c.decimal.inside.parts c.has_small_exponent.result c.decimal.invariant c.if-decimal-le-MAX_LENGTH.true c.has_small_exponent.ensures)
