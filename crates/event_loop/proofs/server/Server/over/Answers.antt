use Rattle.std.proofs.Common.{◌∙◌}
use Rattle.event_loop.proofs.Listed.{listed_at, to_lists}
use Rattle.event_loop.proofs.Seats.{shown}
use Rattle.event_loop.proofs.server.Server.over.Goals as goal

pub returns-clause-none : goal.returns-clause-none
returns-clause-none g c = λ q. listed_at c.in_ok-rounds.rounds.opened.connections q ∙ c.in_ok-rounds.ensures.none q

pub returns-clause-woken : goal.returns-clause-woken
returns-clause-woken g c = shown c.in_ok-rounds.rounds.opened c.in_ok-rounds.ensures.woken

pub returns-clause-joined : goal.returns-clause-joined
returns-clause-joined g c =
    (to_lists g.C.LoopCore.steps g.S.Stream.Wire.told c.in_ok-rounds.rounds.opened).joined c.in_ok-rounds.ensures.joined
