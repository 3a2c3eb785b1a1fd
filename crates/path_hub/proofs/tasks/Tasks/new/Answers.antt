use Rattle.path_hub.proofs.UnderWay.{none_on_way}
use Rattle.path_hub.proofs.tasks.Tasks.new.Goals as goal

pub returns-clause-on_way : goal.returns-clause-on_way
returns-clause-on_way c = λ t. none_on_way t (record { asked = c.new.result; readings = c.new-2.result; factor = c.args.factor }) c.new.ensures.empty
