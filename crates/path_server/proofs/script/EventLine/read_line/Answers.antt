use Rattle.path_server.proofs.Splits.{bad_line}
use Rattle.path_server.proofs.script.EventLine.read_line.Goals as goal

pub returns-in-Some-clause-none : goal.returns-in-Some-clause-none
returns-in-Some-clause-none c = bad_line c.args.line.now c.in-Some.conn c.in-Some.word.now c.read_word.result c.in-Some.ensures.some c.read_word.ensures.none
