use Rattle.std.specs.Prelude.{◌≡◌, ◌<◌, IfSome, IsTrue}
use Rattle.open_connections.specs.Looping.{DoesSome}
use Rattle.open_connections.specs.Opened.{lanes_of}
use Rattle.open_connections.specs.Woken.{StaysWoken}
use Rattle.event_loop.proofs.rounds.Rounds.accept_some.Given as goal

-- what was done so far, that nobody is forgotten, and that one was asked for unless nothing was done
abbrev pub invariant-accepts : goal.invariant-accepts
invariant-accepts g l = record { lanes : DoesSome g.C.LoopCore.steps (lanes_of g.C.LoopCore.steps g.S.Stream.Wire.told l.initial.self.opened) (lanes_of g.C.LoopCore.steps g.S.Stream.Wire.told l.self.opened); woken : StaysWoken l.initial.self.opened l.self.opened; first : l._accepted ≡ 0 → l.self ≡ l.initial.self; tried : 0 < l._accepted → IfSome (g.S.System.tried l.self.system) IsTrue }
