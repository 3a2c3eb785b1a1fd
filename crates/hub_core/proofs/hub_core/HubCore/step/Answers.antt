use Rattle.std.proofs.Common.{subst}
use Rattle.path_hub.specs.UnderWay.{SpendsAt}
use Rattle.hub_core.proofs.Waiting.{goes_on}
use Rattle.hub_core.proofs.hub_core.HubCore.step.Goals as goal

pub returns-in-Ok-Working-clause-works : goal.returns-in-Ok-Working-clause-works
returns-in-Ok-Working-clause-works c =
    rw (← c.self.view_is) (goes_on c.in-Ok-Working.field-0 c.args.conn c.self.inside.hub c.answer_some.new.self c.self.inside.tasks c.answer_some.new.tasks _ _ c.in-Ok-Working.field-0-is c.in-Ok-Working.ensures.shares)

pub returns-in-Ok-Working-clause-little : goal.returns-in-Ok-Working-clause-little
returns-in-Ok-Working-clause-little c =
    rw (← c.self.view_is) (subst (λ s. SpendsAt s c.args.conn c.self.inside.hub c.self.inside.tasks c.answer_some.new.tasks c.args.work.units) c.in-Ok-Working.field-0-is c.in-Ok-Working.ensures.little)

pub invariant_of-self-in-Err : goal.invariant_of-self-in-Err
invariant_of-self-in-Err c = c.abandon.ensures.on_way c.answer_some.new.self.tenants c.answer_some.ensures.on_way
