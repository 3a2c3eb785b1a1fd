use Rattle.path_hub.specs.Sending.{Sending}
use Rattle.path_hub.proofs.Calls.{left_at}
use Rattle.path_hub.proofs.sending.send_replies.Given as goal

abbrev pub invariant-frames : goal.invariant-frames
invariant-frames g l = Sending l.conn l.piece l.fn.hub (g.W.Wire.meaning l.fn.wire) l.written l.out.items l.hub (g.W.Wire.meaning l.wire)

abbrev pub decreases-frames : goal.decreases-frames
decreases-frames g l = left_at l.conn l.hub
