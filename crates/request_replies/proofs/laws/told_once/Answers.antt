use Rattle.request_replies.proofs.Once.{alone_once, served_once}
use Rattle.request_replies.proofs.laws.told_once.Goals as goal

pub returns-clause-alone : goal.returns-clause-alone
returns-clause-alone c = alone_once (record { puts = c.puts_answer_once.ensures; hits = c.queries_answer_once.ensures; queries = c.queries_have_one_tree.ensures })

pub returns-clause-among : goal.returns-clause-among
returns-clause-among c = served_once (record { puts = c.puts_answer_once.ensures; hits = c.queries_answer_once.ensures; queries = c.queries_have_one_tree.ensures })
