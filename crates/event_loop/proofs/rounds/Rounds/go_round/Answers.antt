use Rattle.std.proofs.Common.{[]}
use Rattle.open_connections.specs.Woken.{Stands}
use Rattle.event_loop.proofs.Looping.{no_step, no_step_on, on_some, on_then, some_then}
use Rattle.event_loop.proofs.Serving.{unchanged}
use Rattle.event_loop.proofs.Waking.{same_woken, woken_again, woken_still}
use Rattle.event_loop.proofs.rounds.Rounds.go_round.Goals as goal

pub returns-in_err-wait-clause-lanes : goal.returns-in_err-wait-clause-lanes
returns-in_err-wait-clause-lanes g c = no_step g.C.LoopCore.steps _ _ (c.steps_join.ensures.twice _ _ _ c.is_later-is_later.ensures.lanes c.wait.ensures.lanes)

pub returns-in_err-wait-clause-on : goal.returns-in_err-wait-clause-on
returns-in_err-wait-clause-on g c = λ h. no_step_on g.C.LoopCore.steps _ _ (c.steps_join.ensures.twice _ _ _ c.is_later-is_later.ensures.lanes c.wait.ensures.lanes)

pub returns-in_err-take_turns-clause-lanes : goal.returns-in_err-take_turns-clause-lanes
returns-in_err-take_turns-clause-lanes g c = some_then c.steps_join.ensures _ _ _ (no_step g.C.LoopCore.steps _ _ (c.steps_join.ensures.twice _ _ _ c.is_later-is_later.ensures.lanes c.wait.ensures.lanes)) (some_then c.steps_join.ensures _ _ _ (on_some g.C.LoopCore.steps _ _ c.look.ensures.lanes) (some_then c.steps_join.ensures _ _ _ (no_step g.C.LoopCore.steps _ _ (unchanged g.C.LoopCore.steps _ _ _ c.stay_deaf.ensures.opened)) (some_then c.steps_join.ensures _ _ _ c.accept.ensures.lanes (some_then c.steps_join.ensures _ _ _ (no_step g.C.LoopCore.steps _ _ c.recall.ensures.lanes) (on_some g.C.LoopCore.steps _ _ c.take_turns.ensures.lanes)))))

pub returns-in_err-take_turns-clause-on : goal.returns-in_err-take_turns-clause-on
returns-in_err-take_turns-clause-on g c = λ h. on_then c.steps_join.ensures _ _ _ (no_step_on g.C.LoopCore.steps _ _ (c.steps_join.ensures.twice _ _ _ c.is_later-is_later.ensures.lanes c.wait.ensures.lanes)) (on_then c.steps_join.ensures _ _ _ c.look.ensures.lanes (on_then c.steps_join.ensures _ _ _ (no_step_on g.C.LoopCore.steps _ _ (unchanged g.C.LoopCore.steps _ _ _ c.stay_deaf.ensures.opened)) (on_then c.steps_join.ensures _ _ _ (no_step_on g.C.LoopCore.steps _ _ (c.steps_join.ensures.twice _ _ _ (c.accept.ensures.deaf (c.stay_deaf.ensures.deaf h)) c.recall.ensures.lanes)) c.take_turns.ensures.lanes)))

pub returns-clause-lanes : goal.returns-clause-lanes
returns-clause-lanes g c = some_then c.steps_join.ensures _ _ _ (no_step g.C.LoopCore.steps _ _ (c.steps_join.ensures.twice _ _ _ c.is_later-is_later.ensures.lanes c.wait.ensures.lanes)) (some_then c.steps_join.ensures _ _ _ (on_some g.C.LoopCore.steps _ _ c.look.ensures.lanes) (some_then c.steps_join.ensures _ _ _ (no_step g.C.LoopCore.steps _ _ (unchanged g.C.LoopCore.steps _ _ _ c.stay_deaf.ensures.opened)) (some_then c.steps_join.ensures _ _ _ c.accept.ensures.lanes (some_then c.steps_join.ensures _ _ _ (no_step g.C.LoopCore.steps _ _ c.recall.ensures.lanes) (some_then c.steps_join.ensures _ _ _ (on_some g.C.LoopCore.steps _ _ c.take_turns.ensures.lanes) (no_step g.C.LoopCore.steps _ _ (unchanged g.C.LoopCore.steps _ _ _ c.administer.ensures.opened)))))))

pub returns-clause-on : goal.returns-clause-on
returns-clause-on g c = λ h. on_then c.steps_join.ensures _ _ _ (no_step_on g.C.LoopCore.steps _ _ (c.steps_join.ensures.twice _ _ _ c.is_later-is_later.ensures.lanes c.wait.ensures.lanes)) (on_then c.steps_join.ensures _ _ _ c.look.ensures.lanes (on_then c.steps_join.ensures _ _ _ (no_step_on g.C.LoopCore.steps _ _ (unchanged g.C.LoopCore.steps _ _ _ c.stay_deaf.ensures.opened)) (on_then c.steps_join.ensures _ _ _ (no_step_on g.C.LoopCore.steps _ _ (c.steps_join.ensures.twice _ _ _ (c.accept.ensures.deaf (c.stay_deaf.ensures.deaf h)) c.recall.ensures.lanes)) (on_then c.steps_join.ensures _ _ _ c.take_turns.ensures.lanes (no_step_on g.C.LoopCore.steps _ _ (unchanged g.C.LoopCore.steps _ _ _ c.administer.ensures.opened))))))

pub returns-clause-turns : goal.returns-clause-turns
returns-clause-turns g c = rw c.administer.ensures.opened (record {
  begun = c.recall.new.self;
  comes = some_then c.steps_join.ensures _ _ _ (no_step g.C.LoopCore.steps _ _ (c.steps_join.ensures.twice _ _ _ c.is_later-is_later.ensures.lanes c.wait.ensures.lanes)) (some_then c.steps_join.ensures _ _ _ (on_some g.C.LoopCore.steps _ _ c.look.ensures.lanes) (some_then c.steps_join.ensures _ _ _ (no_step g.C.LoopCore.steps _ _ (unchanged g.C.LoopCore.steps _ _ _ c.stay_deaf.ensures.opened)) (some_then c.steps_join.ensures _ _ _ c.accept.ensures.lanes (no_step g.C.LoopCore.steps _ _ c.recall.ensures.lanes))));
  stand = λ key number h.
      let looked = c.look.ensures.woken (Stands key number []) (c.wait.ensures.woken (Stands key number []) (c.is_later-is_later.ensures.woken (Stands key number []) h)) in
      c.recall.ensures.stand key number (c.accept.ensures.woken (Stands key number []) (same_woken _ _ c.stay_deaf.ensures.opened (Stands key number []) looked));
  turns = c.in_ok-take_turns.ensures.each;
})

pub returns-clause-woken : goal.returns-clause-woken
returns-clause-woken g c = λ h.
    let looked = woken_still [] c.args.self.now.opened c.look.new.self.opened h (λ fact k. c.look.ensures.woken fact (c.wait.ensures.woken fact (c.is_later-is_later.ensures.woken fact k))) in
    let accepted = woken_still [] c.look.new.self.opened c.accept.new.self.opened looked (λ fact k. c.accept.ensures.woken fact (same_woken _ _ c.stay_deaf.ensures.opened fact k)) in
    woken_still [] c.take_turns.new.self.opened c.administer.new.self.opened (c.in_ok-take_turns.ensures.woken (woken_again [] c.accept.new.self.opened c.recall.new.self accepted c.recall.ensures.woken)) (same_woken _ _ c.administer.ensures.opened)
