use Rattle.std.specs.Prelude.{◌≡◌}
use Rattle.event_loop.proofs.rounds.Rounds.administer.Given as goal

-- the connections that are served are as they were
abbrev pub invariant-places : goal.invariant-places
invariant-places g l = l.self.opened ≡ l.initial.self.opened
