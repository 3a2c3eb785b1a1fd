use Rattle.std.specs.Io.KnownBytes.{Keeps}
use Rattle.socket_wire.proofs.stream_wire.read_again.Given as goal

abbrev pub invariant-tries : goal.invariant-tries
invariant-tries g l = Keeps (g.S.Read.remaining l.initial.stream) (g.S.Read.remaining l.stream)
