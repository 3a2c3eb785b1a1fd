use Rattle.std.proofs.Common.{map, take}
use Rattle.path_server.specs.Calls.{frame_of}
use Rattle.path_server.proofs.Calling.{Called}
use Rattle.path_server.proofs.call.exchange_all.Given as goal

abbrev pub invariant-loop-request : goal.invariant-loop-request
invariant-loop-request g l = Called (g.W.Wire.meaning l.fn.wire) (map frame_of (take l.request-index l.requests)) l.fn.out.items (g.W.Wire.meaning l.wire) l.out.items
