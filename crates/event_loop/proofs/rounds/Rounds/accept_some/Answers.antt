use Rattle.std.proofs.Common.{arith, refl}
use Rattle.event_loop.proofs.Looping.{no_step, some_then, stays}
use Rattle.event_loop.proofs.rounds.Rounds.accept_some.Goals as goal

pub accepts-init : goal.accepts-init
accepts-init g c = record { lanes = no_step g.C.LoopCore.steps _ _ (stays _); woken = λ fact h. h; first = λ e. refl; tried = λ h. absurd (omega (arith, h)) }

pub accepts-preserved : goal.accepts-preserved
accepts-preserved g c = record {
  lanes = some_then c.steps_join.ensures _ _ _ c.accepts.invariant.lanes c.accept_next.ensures.lanes;
  woken = λ fact h. c.accept_next.ensures.woken fact (c.accepts.invariant.woken fact h);
  first = λ e. absurd (omega (arith, e));
  tried = λ h. grind (arith, c.accept_next.ensures.asked, c.if-not-accept_next.false);
}

pub returns-then-not-accept_next-clause-lanes : goal.returns-then-not-accept_next-clause-lanes
returns-then-not-accept_next-clause-lanes g c = some_then c.steps_join.ensures _ _ _ c.accepts.invariant.lanes c.accept_next.ensures.lanes
