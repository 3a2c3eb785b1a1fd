use Rattle.decimal_order.proofs.LateExponents as late_exponents
use Rattle.decimal_order.proofs.laws.late_exponents_keep_limits.Goals as goal

pub returns : goal.returns
returns c = late_exponents.late_exponents_keep_limits
