use Rattle.std.proofs.Common.{Some, ap, ◌∙◌}
use Rattle.path_hub.proofs.UnderWay.{reads_on}
use Rattle.path_hub.proofs.tasks.Tasks.read_on.Goals as goal

pub returns-in-Ok-clause-further : goal.returns-in-Ok-clause-further
returns-in-Ok-clause-further c = λ e.
    reads_on c.args.conn c.args.places c.args.self.now (record c.args.self.now { readings = c.remove-reading.new.self }) c.keep_reading.new.self c.remove-reading.result c.read_further.result c.in-Some-Paused.task c.requires
    c.keep_reading.ensures.same c.remove-reading.ensures.value c.remove-reading.ensures.updates.0 (c.in-Some-Paused.is ∙ ap Some c.in-Some-Paused.field-0-is) c.read_further.ensures c.in-Ok.ensures.ok
