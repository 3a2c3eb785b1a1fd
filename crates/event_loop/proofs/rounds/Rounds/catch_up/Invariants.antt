use Rattle.open_connections.specs.Looping.{Stays}
use Rattle.open_connections.specs.Opened.{lanes_of}
use Rattle.open_connections.specs.Woken.{StaysWoken}
use Rattle.event_loop.proofs.rounds.Rounds.catch_up.Given as goal

-- what was done so far, and that nobody is forgotten
abbrev pub invariant-waits : goal.invariant-waits
invariant-waits g l = record { lanes : Stays (lanes_of g.C.LoopCore.steps g.S.Stream.Wire.told l.initial.self.opened) (lanes_of g.C.LoopCore.steps g.S.Stream.Wire.told l.self.opened); woken : StaysWoken l.initial.self.opened l.self.opened }
