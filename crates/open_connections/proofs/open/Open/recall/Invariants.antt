use Rattle.std.specs.Prelude.{◌≡◌, ◌<◌, ℕ, false, IsTrue}
use Rattle.open_connections.specs.Looping.{Stays}
use Rattle.open_connections.specs.Opened.{lanes_of}
use Rattle.open_connections.specs.Woken.{Fact, Awake, is_so}
use Rattle.open_connections.proofs.Woken.{sparing_all}
use Rattle.open_connections.proofs.open.Open.recall.Given as goal

-- those that were looked at so far are awake
abbrev pub invariant-keys : goal.invariant-keys
invariant-keys g l = record {
  lanes : Stays (lanes_of g.C.LoopCore.steps g.S.Wire.told l.initial.self) (lanes_of g.C.LoopCore.steps g.S.Wire.told l.self);
  bound : l.self.bound ≡ l.initial.self.bound;
  keeps : (fact : Fact) → IsTrue (is_so (sparing_all fact) l.initial.self) → IsTrue (is_so (sparing_all fact) l.self);
  awake : (q : ℕ) → q < l.key → IsTrue (is_so (Awake false q) l.self);
}
