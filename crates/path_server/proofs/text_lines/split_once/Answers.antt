use Rattle.path_server.proofs.Splits.{lacks_all, split_there}
use Rattle.path_server.proofs.text_lines.split_once.Goals as goal

pub returns-in-Some-clause-some : goal.returns-in-Some-clause-some
returns-in-Some-clause-some c = split_there c.args.mark c.args.text.now c.in-Some.at c.in-Some.ensures

pub returns-in-None-clause-none : goal.returns-in-None-clause-none
returns-in-None-clause-none c = lacks_all c.args.mark c.args.text.now c.in-None.ensures
