use Rattle.std.proofs.Common.{◌≤◌, length}
use Rattle.name_order.specs.Ordered.{AreKept}
use Rattle.name_order.proofs.TwinNames.{NoneBelow}
use Rattle.name_order.proofs.SuspectsLeft.{AreLeft}
use Rattle.name_order.proofs.duplicates.order_names.Given as goal

abbrev pub invariant-loop-n : goal.invariant-loop-n
invariant-loop-n l = (l.from ≤ length l.tape)
    × AreLeft l.text l.tape l.n-items l.n-index l.from
    × NoneBelow l.text l.tape l.from
    × AreKept l.text l.tape l.from l.order
