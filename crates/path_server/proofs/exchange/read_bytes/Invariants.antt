use Rattle.path_server.proofs.Replying.{HasRead}
use Rattle.path_server.proofs.exchange.read_bytes.Given as goal

abbrev pub invariant-reading : goal.invariant-reading
invariant-reading g l = HasRead l.count (g.W.Wire.meaning l.initial.wire) l.initial.bytes.items l.left (g.W.Wire.meaning l.wire) l.bytes.items

abbrev pub decreases-reading : goal.decreases-reading
decreases-reading g l = l.left
