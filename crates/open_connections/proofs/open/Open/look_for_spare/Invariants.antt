use Rattle.open_connections.specs.Looping.{Stays}
use Rattle.open_connections.specs.Opened.{lanes_of}
use Rattle.open_connections.specs.Woken.{StaysWoken}
use Rattle.open_connections.proofs.open.Open.look_for_spare.Given as goal

-- nothing that is served has changed so far, and nobody is forgotten
abbrev pub invariant-keys : goal.invariant-keys
invariant-keys g l = record { lanes : Stays (lanes_of g.C.LoopCore.steps g.S.Wire.told l.initial.self) (lanes_of g.C.LoopCore.steps g.S.Wire.told l.self); woken : StaysWoken l.initial.self l.self }
