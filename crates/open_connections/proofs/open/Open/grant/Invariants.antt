use Rattle.std.specs.Prelude.{◌≡◌}
use Rattle.open_connections.specs.Looping.{Stays}
use Rattle.open_connections.specs.Opened.{lanes_of}
use Rattle.open_connections.specs.Shares.{StayFree}
use Rattle.open_connections.specs.Turns.{ClaimsStay, StatesStay}
use Rattle.open_connections.specs.Woken.{StaysWoken}
use Rattle.open_connections.proofs.open.Open.grant.Given as goal

-- nothing that is served has changed so far, no ticket came, and nobody is forgotten
abbrev pub invariant-shares : goal.invariant-shares
invariant-shares g l = record {
  lanes : Stays (lanes_of g.C.LoopCore.steps g.S.Wire.told l.initial.self) (lanes_of g.C.LoopCore.steps g.S.Wire.told l.self);
  free : StayFree l.initial.self.budgets l.self.budgets;
  ready : StatesStay l.initial.self l.self;
  claims : ClaimsStay l.initial.self l.self;
  core : l.self.core ≡ l.initial.self.core;
  longs : l.self.due.longs ≡ l.initial.self.due.longs;
  woken : StaysWoken l.initial.self l.self;
}
