use Rattle.std.proofs.Common.{arith, inl, inr}
use Rattle.std.proofs.lemmas.Result.{err_from_is_err_and}
use Rattle.event_loop.proofs.Looping.{no_step, some_then, stays}
use Rattle.event_loop.proofs.Deaf.{deaf_still, deaf_then}
use Rattle.event_loop.proofs.Going.{no_round, round_then}
use Rattle.event_loop.proofs.server.Server.run.Goals as goal

pub rounds-init : goal.rounds-init
rounds-init g c = record {
  steps = no_step g.C.LoopCore.steps _ _ (stays _);
  rounds = no_round g.row.S-Stream.Denot g.row.T.Denot g.C.LoopCore.steps g.S.Stream.Wire.told g.C.LoopCore.waits g.C.LoopCore.longs _;
  deaf = λ h. deaf_still _ _ h;
}

pub rounds-preserved : goal.rounds-preserved
rounds-preserved g c = record {
  steps = some_then c.steps_join.ensures _ _ _ c.rounds.invariant.steps c.round.ensures.steps;
  rounds = round_then g.row.S-Stream.Denot g.row.T.Denot g.C.LoopCore.steps g.S.Stream.Wire.told g.C.LoopCore.waits g.C.LoopCore.longs _ _ _ _ c.rounds.invariant.rounds (record { turns = c.in_ok-round.ensures.turns; woken = c.in_ok-round.ensures.woken });
  deaf = λ h. let d = c.rounds.invariant.deaf h in deaf_then _ _ _ _ d (c.round.ensures.deaf d.deaf);
}

pub returns-in_err-round-clause-steps : goal.returns-in_err-round-clause-steps
returns-in_err-round-clause-steps g c = some_then c.steps_join.ensures _ _ _ c.rounds.invariant.steps c.round.ensures.steps

pub returns-in_err-round-clause-deaf : goal.returns-in_err-round-clause-deaf
returns-in_err-round-clause-deaf g c = λ h. let d = c.rounds.invariant.deaf h in deaf_then _ _ _ _ d (c.round.ensures.deaf d.deaf)

pub returns-then-is_over-clause-rounds : goal.returns-then-is_over-clause-rounds
returns-then-is_over-clause-rounds g c = (c.rounds.invariant.rounds.0, c.rounds.invariant.rounds.1)

pub returns-in_err-round-clause-fails : goal.returns-in_err-round-clause-fails
returns-in_err-round-clause-fails g c =
    let p = err_from_is_err_and c.from_residual.result c.from_residual.ensures.1 in
    rw (p.1, p.2) (inl c.in_err-round.ensures.fault)

pub returns-clause-fails : goal.returns-clause-fails
returns-clause-fails g c = inr (c.rounds.invariant.rounds.0, c.rounds.invariant.rounds.1, omega (arith, c.rounds.invariant.rounds.2, c.rounds-test.false))
