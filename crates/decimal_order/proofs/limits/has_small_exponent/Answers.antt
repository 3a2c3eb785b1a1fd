use Rattle.decimal_order.proofs.WithinLimits.{small_test}
use Rattle.decimal_order.proofs.limits.has_small_exponent.Goals as goal

pub returns : goal.returns
returns c = rw (← c.parts.view_is) (small_test _ c.small_value.result c.is_some.result c.small_value.ensures c.is_some.ensures)
