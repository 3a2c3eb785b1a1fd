use Rattle.std.proofs.Common.{◌+◌, ◌-◌, vec_len}
use Rattle.tape_select.specs.Memo.{AreRows}
use Rattle.query_plan.specs.Planned.{claims_of}
use Rattle.tape_select.proofs.truths.keep_truth.Given as goal

abbrev pub invariant-loop-alloc : goal.invariant-loop-alloc
invariant-loop-alloc l = AreRows l.doc (claims_of l.plan.stages.items) l.rows.items

abbrev pub decreases-loop-alloc : goal.decreases-loop-alloc
decreases-loop-alloc l = l.place + 1 - vec_len l.rows
