use Rattle.path_grammar.specs.View.{comparable_view}
use Rattle.condition_reader.proofs.Exprs.{read_all}
use Rattle.condition_reader.proofs.reading.+reading.Goals as goal

pub read_all-returns : goal.read_all-returns
read_all-returns t c = read_all (comparable_view c.args.side.now) c.loop-operand.made.items c.args.operands.now c.loop-operand.operand-index c.loop-operand-test.false c.loop-operand.invariant.same
