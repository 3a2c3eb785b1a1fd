use Rattle.decimal_order.proofs.Magnitudes.{zero_when}
use Rattle.decimal_order.proofs.magnitude.is_zero.Goals as goal

pub returns : goal.returns
returns c = zero_when _ _ _ c.leading_zeros.ensures c.digit_count.ensures.count
