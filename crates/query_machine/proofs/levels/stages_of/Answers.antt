use Rattle.query_plan.specs.Planned.{claims_of}
use Rattle.query_machine.proofs.levels.stages_of.Goals as goal

pub returns-then-is_empty-clause-claimed : goal.returns-then-is_empty-clause-claimed
returns-then-is_empty-clause-claimed c = rw c.deref.ensures.value (c.finds_slots.ensures (claims_of c.args.plan.now.stages.items) c.args.plan.now.slots c.requires)
