use Rattle.open_connections.specs.Looping.{Stays}
use Rattle.open_connections.specs.Opened.{lanes_of}
use Rattle.open_connections.specs.Woken.{StaysWoken}
use Rattle.event_loop.proofs.rounds.Rounds.turn_away.Given as goal

-- nothing that is served has changed so far, and nobody is forgotten
abbrev pub invariant-asking : goal.invariant-asking
invariant-asking g l = record { lanes : Stays (lanes_of g.C.LoopCore.steps g.S.Stream.Wire.told l.initial.self.opened) (lanes_of g.C.LoopCore.steps g.S.Stream.Wire.told l.self.opened); woken : StaysWoken l.initial.self.opened l.self.opened }
