use Rattle.tape_select.specs.Memo.{Right}
use Rattle.query_plan.specs.Planned.{claims_of}
use Rattle.tape_select.proofs.selecting.empty_slots.Given as goal

abbrev pub invariant-loop : goal.invariant-loop
invariant-loop l = Right l.doc (claims_of l.fn.plan.stages.items) l.slots.items
