use Rattle.std.proofs.Common.{rules, ap}
use Rattle.query_plan.specs.Planned.{claims_of}
use Rattle.query_machine.specs.Cursors.{first_condition}
use Rattle.query_machine.proofs.Steps.{asked_at, behind_all}
use Rattle.query_machine.proofs.cursor.condition_in_turn.Goals as goal

pub returns-in-Some : goal.returns-in-Some
returns-in-Some c =
    asked_at (claims_of c.args.plan.now.stages.items) c.args.stage.now c.args.number c.in-Some.selection.now c.condition_of.result (search rules) (search rules) c.requires c.condition_of.ensures.some c.condition_of.ensures.condition

pub returns-in-None : goal.returns-in-None
returns-in-None c = ap first_condition (behind_all c.args.stage.now c.args.number (search rules))
