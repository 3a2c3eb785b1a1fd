use Rattle.std.specs.Prelude.{false}
use Rattle.path_hub.specs.Into.{TakesPiece}
use Rattle.path_hub.proofs.Calls.{left_at}
use Rattle.path_hub.proofs.hub.Hub.bytes.Given as goal

abbrev pub invariant-frames : goal.invariant-frames
invariant-frames l = TakesPiece l.conn l.piece l.fn.self l.fn.out.items l.self l.out.items false

abbrev pub decreases-frames : goal.decreases-frames
decreases-frames l = left_at l.conn l.self
