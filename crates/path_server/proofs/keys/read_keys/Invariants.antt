use Rattle.std.proofs.Common.{length}
use Rattle.path_server.proofs.Following.{Follows}
use Rattle.path_server.proofs.keys.read_keys.Given as goal

abbrev pub invariant-loop-rest : goal.invariant-loop-rest
invariant-loop-rest l = Follows l.fn.text l.keys.items l.rest

abbrev pub decreases-loop-rest : goal.decreases-loop-rest
decreases-loop-rest l = length l.rest
