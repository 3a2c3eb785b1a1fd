use Rattle.std.proofs.Common.{rules, length, ◌-◌}
use Rattle.query_plan.specs.Planned.{claims_of, condition_view}
use Rattle.query_machine.proofs.Above.{next_awaits}
use Rattle.query_machine.proofs.Stacks.{claimed_stage}
use Rattle.query_machine.proofs.levels.next_query.Goals as goal

pub condition_in_turn-requires : goal.condition_in_turn-requires
condition_in_turn-requires c = claimed_stage (claims_of c.args.plan.now.stages.items) c.args.stages.now c.in_ok-c.c.now.stage c.in_ok-stage.stage.now (search rules) (search rules) c.requires.claimed

pub returns-clause-awaits : goal.returns-clause-awaits
returns-clause-awaits c =
    (next_awaits c.args.doc.now (claims_of c.args.plan.now.stages.items) c.args.stages.now c.args.track.now (length c.args.track.now.cursors.items - 1) c.in_ok-c.c.now c.in_ok-stage.stage.now (condition_view c.in_ok-condition.condition.now).tree c.in_ok-child.child
    c.first_awaited-next.result.query c.first_awaited-next.result.paid (search rules) (search rules) (search rules) (search rules) c.in_ok-condition.ensures.condition c.in_ok-child.was c.first_awaited-next.ensures).0

pub returns-clause-little : goal.returns-clause-little
returns-clause-little c =
    (next_awaits c.args.doc.now (claims_of c.args.plan.now.stages.items) c.args.stages.now c.args.track.now (length c.args.track.now.cursors.items - 1) c.in_ok-c.c.now c.in_ok-stage.stage.now (condition_view c.in_ok-condition.condition.now).tree c.in_ok-child.child
    c.first_awaited-next.result.query c.first_awaited-next.result.paid (search rules) (search rules) (search rules) (search rules) c.in_ok-condition.ensures.condition c.in_ok-child.was c.first_awaited-next.ensures).1
