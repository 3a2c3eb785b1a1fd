use Rattle.std.specs.Prelude.{◌≡◌}
use Rattle.event_loop.proofs.rounds.Rounds.receive.Given as goal

-- the connections that are served are as they were
abbrev pub invariant-callers : goal.invariant-callers
invariant-callers g l = l.self.opened ≡ l.initial.self.opened
