use Rattle.std.proofs.Common.{drop}
use Rattle.open_connections.specs.Looping.{DoesOn}
use Rattle.open_connections.specs.Opened.{lanes_of}
use Rattle.open_connections.specs.Woken.{IsWoken}
use Rattle.event_loop.proofs.Serving.{Leads}
use Rattle.event_loop.proofs.rounds.Rounds.take_turns.Given as goal

-- what was done so far, that the rest of the list is to be served, and that nobody is forgotten
abbrev pub invariant-turns : goal.invariant-turns
invariant-turns g l = record {
  lanes : DoesOn g.C.LoopCore.steps (lanes_of g.C.LoopCore.steps g.S.Stream.Wire.told l.initial.self.opened) (lanes_of g.C.LoopCore.steps g.S.Stream.Wire.told l.self.opened);
  leads : Leads g.C.LoopCore.steps g.S.Stream.Wire.told g.C.LoopCore.waits g.C.LoopCore.longs l.due-items (drop l.due-index l.due-items) l.initial.self.opened l.self.opened;
  woken : IsWoken l.due-items l.initial.self.opened → IsWoken (drop l.due-index l.due-items) l.self.opened;
}
