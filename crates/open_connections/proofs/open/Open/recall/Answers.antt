use Rattle.std.proofs.Common.{◌∙◌, [], arith}
use Rattle.open_connections.specs.Woken.{Stands}
use Rattle.open_connections.proofs.Looping.{stays_then}
use Rattle.open_connections.proofs.Woken.{awake_so_far, recalled, spared, sparing_all}
use Rattle.open_connections.proofs.open.Open.recall.Goals as goal

pub keys-preserved : goal.keys-preserved
keys-preserved g c = record {
  lanes = stays_then _ _ _ c.keys.invariant.lanes c.give_turn.ensures.lanes;
  bound = c.give_turn.ensures.bound ∙ c.keys.invariant.bound;
  keeps = λ fact h. c.give_turn.ensures.woken (sparing_all fact) (spared _ _ _ _ c.keys.self.connections c.keys.key (sparing_all fact) (c.keys.invariant.keeps fact h));
  awake = awake_so_far _ _ _ _ c.keys.self.connections c.give_turn.new.self.connections _ _ _ _ c.keys.key c.keys.invariant.awake c.give_turn.ensures.woken c.give_turn.ensures.awake;
}

pub returns-clause-stand : goal.returns-clause-stand
returns-clause-stand g c = λ key number h. c.keys.invariant.keeps (Stands key number []) h

pub returns-clause-woken : goal.returns-clause-woken
returns-clause-woken g c = λ within fact h.
    recalled _ _ _ _ _ c.args.self.now.connections c.keys.self.connections _ _ _ _ c.keys.invariant.bound c.keys.invariant.keeps (λ q l. c.keys.invariant.awake q (omega (arith, l, c.keys-test.false))) within fact h
