use Rattle.std.specs.Prelude.{IsFalse}
use Rattle.open_connections.specs.Looping.{DoesSome}
use Rattle.event_loop.specs.Servers.{GoesSoMany, StaysDeaf, lanes_in}
use Rattle.event_loop.proofs.server.Server.run.Given as goal

-- what was done so far
abbrev pub invariant-rounds : goal.invariant-rounds
invariant-rounds g l = record {
  steps : DoesSome g.C.LoopCore.steps (lanes_in g.C.LoopCore.steps l.initial.self) (lanes_in g.C.LoopCore.steps l.self);
  rounds : GoesSoMany g.row.S-Stream.Denot g.row.T.Denot g.C.LoopCore.steps g.S.Stream.Wire.told g.C.LoopCore.waits g.C.LoopCore.longs l._gone l.initial.self l.self;
  deaf : IsFalse l.initial.self.listens → StaysDeaf g.C.LoopCore.steps l.initial.self l.self;
}
