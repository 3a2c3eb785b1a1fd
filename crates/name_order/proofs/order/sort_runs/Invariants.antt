use Rattle.std.proofs.Common.{◌-◌, length}
use Rattle.name_order.proofs.SortedRuns.{AreSorted}
use Rattle.name_order.proofs.order.sort_runs.Given as goal

abbrev pub invariant-loop-from : goal.invariant-loop-from
invariant-loop-from l = AreSorted l.text l.tape l.fn.words.items l.words.items l.from

abbrev pub decreases-loop-from : goal.decreases-loop-from
decreases-loop-from l = length l.fn.words.items - l.from
