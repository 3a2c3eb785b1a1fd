use Rattle.std.specs.Io.KnownBytes.{Keeps}
use Rattle.socket_wire.proofs.stream_wire.write_again.Given as goal

abbrev pub invariant-tries : goal.invariant-tries
invariant-tries g l = Keeps (g.S.Write.contents l.initial.stream) (g.S.Write.contents l.stream)
