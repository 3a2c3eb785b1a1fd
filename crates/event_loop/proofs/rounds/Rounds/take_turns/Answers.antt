use Rattle.std.proofs.Common.{◌∙◌, List, [], subst, sym}
use Rattle.std.proofs.lemmas.Result.{err_from_is_err_and}
use Rattle.due_list.specs.declared.due.Due.{Due}
use Rattle.open_connections.specs.Woken.{IsWoken, Stands}
use Rattle.event_loop.proofs.Looping.{no_step_on, on_then, stays}
use Rattle.event_loop.proofs.Serving.{leads_on, leads_through}
use Rattle.event_loop.proofs.Waking.{none_left, woken_on, woken_out, woken_still}
use Rattle.event_loop.proofs.rounds.Rounds.take_turns.Goals as goal

pub turns-init : goal.turns-init
turns-init g c = record { lanes = no_step_on g.C.LoopCore.steps _ _ (stays _); leads = λ end e. e; woken = λ h. h }

pub turns-preserved : goal.turns-preserved
turns-preserved g c = record {
  lanes = on_then c.steps_join.ensures _ _ _ c.turns.invariant.lanes c.serve.ensures.lanes;
  leads = leads_on g.C.LoopCore.steps g.S.Stream.Wire.told g.C.LoopCore.waits g.C.LoopCore.longs _ _ _ _ _ _ c.turns-test.true c.turns.invariant.leads c.in_ok-serve.ensures.serves (λ key number h. c.in_ok-serve.ensures.woken (Stands key number []) h);
  woken = λ h. woken_on _ c.turns.due-index _ c.turns.self.opened c.serve.new.self.opened c.turns-test.true (c.turns.invariant.woken h) c.in_ok-serve.ensures.woken;
}

pub returns-in_err-list-clause-lanes : goal.returns-in_err-list-clause-lanes
returns-in_err-list-clause-lanes g c = no_step_on g.C.LoopCore.steps _ _ c.in_err-list.ensures.lanes

pub returns-in_err-list-clause-refused : goal.returns-in_err-list-clause-refused
returns-in_err-list-clause-refused g c = let p = err_from_is_err_and c.from_residual.result c.from_residual.ensures.1 in rw p.1 p.2

pub returns-in_err-serve-clause-lanes : goal.returns-in_err-serve-clause-lanes
returns-in_err-serve-clause-lanes g c = on_then c.steps_join.ensures _ _ _ (no_step_on g.C.LoopCore.steps _ _ c.in_ok-list.ensures.lanes) (on_then c.steps_join.ensures _ _ _ c.turns.invariant.lanes c.serve.ensures.lanes)

pub returns-clause-lanes : goal.returns-clause-lanes
returns-clause-lanes g c = on_then c.steps_join.ensures _ _ _ (no_step_on g.C.LoopCore.steps _ _ c.in_ok-list.ensures.lanes) (on_then c.steps_join.ensures _ _ _ c.turns.invariant.lanes (no_step_on g.C.LoopCore.steps _ _ c.give_back.ensures.lanes))

pub returns-clause-each : goal.returns-clause-each
returns-clause-each g c = record {
  start = c.take_due.new.self;
  begins = c.in_ok-list.ensures.lanes;
  same = c.in_ok-list.ensures.connections;
  fresh = c.in_ok-list.ensures.fresh;
  serves = rw (sym (c.deref-due-items.ensures.value ∙ c.in_ok-list.ensures.all)) (leads_through g.C.LoopCore.steps g.S.Stream.Wire.told g.C.LoopCore.waits g.C.LoopCore.longs _ c.turns.due-index _ _ _ c.turns-test.false c.turns.invariant.leads (c.give_back.ensures.lanes, c.give_back.ensures.ready, (λ key number h. c.give_back.ensures.woken (Stands key number []) h), c.give_back.ensures.first));
}

pub returns-clause-woken : goal.returns-clause-woken
returns-clause-woken g c = λ h.
    let list : IsWoken c.deref-due-items.result.now c.take_due.new.self =
    subst (λ (x : List Due). IsWoken x c.take_due.new.self) (sym c.deref-due-items.ensures.value) (woken_out _ c.args.self.now.opened c.take_due.new.self h c.in_ok-list.ensures.woken) in
    woken_still [] c.turns.self.opened c.give_back.new.self (none_left _ c.turns.due-index c.turns.self.opened c.turns-test.false (c.turns.invariant.woken list)) c.give_back.ensures.woken
