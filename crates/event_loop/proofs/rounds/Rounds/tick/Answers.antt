use Rattle.event_loop.proofs.Looping.{gone_on, no_step_on, on_then, stays}
use Rattle.event_loop.proofs.rounds.Rounds.tick.Goals as goal

pub keys-init : goal.keys-init
keys-init g c = record { lanes = no_step_on g.C.LoopCore.steps _ _ (stays _); woken = λ fact h. h }

pub keys-preserved : goal.keys-preserved
keys-preserved g c = record {
  lanes = on_then c.steps_join.ensures _ _ _ c.keys.invariant.lanes (gone_on g.C.LoopCore.steps c.keys.key _ _ c.expire.ensures.lanes);
  woken = λ fact h. c.expire.ensures.woken fact (c.keys.invariant.woken fact h);
}
