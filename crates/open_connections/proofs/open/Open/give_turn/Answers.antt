use Rattle.std.proofs.Common.{◌∙◌, sym}
use Rattle.open_connections.proofs.Keeping.{keep_then}
use Rattle.open_connections.proofs.Looping.{stays_then}
use Rattle.open_connections.proofs.Woken.{spared, woken_at}
use Rattle.open_connections.proofs.open.Open.give_turn.Goals as goal

pub returns-then-not-add_turn-clause-lanes : goal.returns-then-not-add_turn-clause-lanes
returns-then-not-add_turn-clause-lanes g c = stays_then _ _ _ c.add_turn.ensures.lanes (c.give_up_query.ensures.lanes (sym c.if-not-add_turn.ensures.due))

pub returns-then-not-add_turn-clause-ready : goal.returns-then-not-add_turn-clause-ready
returns-then-not-add_turn-clause-ready g c = keep_then _ _ _ _ c.add_turn.ensures.ready c.give_up_query.ensures.ready

pub returns-then-not-add_turn-clause-claims : goal.returns-then-not-add_turn-clause-claims
returns-then-not-add_turn-clause-claims g c = keep_then _ _ _ _ c.add_turn.ensures.claims c.give_up_query.ensures.claims

pub returns-then-not-add_turn-clause-awake : goal.returns-then-not-add_turn-clause-awake
returns-then-not-add_turn-clause-awake g c = c.give_up_query.ensures.awake ∙ c.add_turn.ensures.awake

pub returns-then-not-add_turn-clause-woken : goal.returns-then-not-add_turn-clause-woken
returns-then-not-add_turn-clause-woken g c = λ fact h.
    woken_at _ _ _ _ c.give_up_query.new.self.connections c.args.key (c.give_up_query.ensures.awake ∙ c.add_turn.ensures.awake) fact
    (c.give_up_query.ensures.woken fact (spared _ _ _ _ c.add_turn.new.self.connections c.args.key fact (c.add_turn.ensures.woken fact h)))
