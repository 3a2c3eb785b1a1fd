use Rattle.std.proofs.Common.{◌+◌, ◌-◌, vec_len}
use Rattle.tape_select.specs.Memo.{AreTruths}
use Rattle.query_plan.specs.Planned.{claims_of, look}
use Rattle.tape_select.proofs.truths.keep_in.Given as goal

abbrev pub invariant-loop-row : goal.invariant-loop-row
invariant-loop-row l = AreTruths l.doc (look (claims_of l.plan.stages.items) l.slot) l.row.items

abbrev pub decreases-loop-row : goal.decreases-loop-row
decreases-loop-row l = l.cell + 1 - vec_len l.row
