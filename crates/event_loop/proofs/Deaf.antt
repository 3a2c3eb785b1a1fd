-- Rounds of a server that takes in no connection, one after the other.
use Rattle.std.specs.Prelude.{IsFalse}
use Rattle.connection_turns.specs.Cores.{CoreSteps}
use Rattle.event_loop.specs.Servers.{Serving, StaysDeaf}

pub deaf_still : {C : Type 0} (s : CoreSteps C) (a : Serving C) → IsFalse a.listens → StaysDeaf s a a
deaf_still s a h = record { deaf = h; none_new = λ q e. e }

pub deaf_then : {C : Type 0} (s : CoreSteps C) (a b c : Serving C) → StaysDeaf s a b → StaysDeaf s b c → StaysDeaf s a c
deaf_then s a b c h k = record { deaf = k.deaf; none_new = λ q e. k.none_new q (h.none_new q e) }
