use Rattle.query_plan.specs.Planned.{stage_view}
use Rattle.query_machine.proofs.Stacks.{step_of_less}
use Rattle.query_machine.proofs.visits.draw_visit.Goals as goal

pub returns-then-is_some-clause-little : goal.returns-then-is_some-clause-little
returns-then-is_some-clause-little c = step_of_less c.args.doc.now (stage_view c.args.stage.now).tree c.args.least c.pass_some.new.meter.left c.in_ok-found.ensures.least
