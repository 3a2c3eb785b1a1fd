use Rattle.query_plan.specs.Planned.{stage_view}
use Rattle.query_machine.proofs.Stacks.{little_asked}
use Rattle.query_machine.proofs.runs.draw_once.Goals as goal

pub returns-in-Some-condition_in_turn-clause-little : goal.returns-in-Some-condition_in_turn-clause-little
returns-in-Some-condition_in_turn-clause-little c =
    little_asked c.args.doc.now (stage_view c.args.stage.now).tree c.ask_within.result c.args.c.now c.ask_within.new.c c.args.least c.args.state.now.meter.left c.ask_within.new.state.meter.left c.requires.least c.ask_within.ensures.drawn
