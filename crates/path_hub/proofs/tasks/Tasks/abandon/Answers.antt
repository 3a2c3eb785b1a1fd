use Rattle.path_hub.proofs.UnderWay.{out_on_way}
use Rattle.path_hub.proofs.tasks.Tasks.abandon.Goals as goal

pub returns-clause-on_way : goal.returns-clause-on_way
returns-clause-on_way c = λ t w. out_on_way t c.args.conn c.args.self.now c.take.new.self w c.take.ensures.clears.query
