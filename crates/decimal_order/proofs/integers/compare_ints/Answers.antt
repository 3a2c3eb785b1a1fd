use Rattle.std.proofs.Common.{arith}
use Rattle.decimal_order.proofs.WholeNumbers.{shorter_less}
use Rattle.decimal_order.proofs.integers.compare_ints.Goals as goal

pub returns-then-x-y : goal.returns-then-x-y
returns-then-x-y c = shorter_less c.args.x.now c.args.y.now c.requires.x_int c.requires.y_int (omega arith)

pub returns-then-x-y-2 : goal.returns-then-x-y-2
returns-then-x-y-2 c = shorter_less c.args.y.now c.args.x.now c.requires.y_int c.requires.x_int (omega arith)
