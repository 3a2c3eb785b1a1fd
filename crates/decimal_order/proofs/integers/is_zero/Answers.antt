use Rattle.decimal_order.proofs.WholeNumbers.{not_empty, zero_int}
use Rattle.decimal_order.proofs.integers.is_zero.Goals as goal

pub bounds-int-0 : goal.bounds-int-0
bounds-int-0 c = not_empty c.args.int.now c.requires

pub returns : goal.returns
returns c = zero_int c.args.int.now c.requires
