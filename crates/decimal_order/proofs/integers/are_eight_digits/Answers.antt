use Rattle.std.proofs.Common.{refl, arith}
use Rattle.decimal_order.proofs.Lanes.{masks_digits, masks_other}
use Rattle.decimal_order.proofs.integers.are_eight_digits.Goals as goal

pub returns-then-lanes-eq0 : goal.returns-then-lanes-eq0
returns-then-lanes-eq0 c = masks_digits 8 255 c.args.lanes c.fits-lanes.0 (omega arith) refl c.if-lanes-eq0.true

pub returns-else-lanes-eq0 : goal.returns-else-lanes-eq0
returns-else-lanes-eq0 c = masks_other 8 c.args.lanes c.fits-lanes.0 (omega arith) c.if-lanes-eq0.false
