use Rattle.std.proofs.Common.{refl, sym, ◌∙◌}
use Rattle.event_loop.proofs.Looping.{no_step, serves_no_new, some_then}
use Rattle.event_loop.proofs.Listed.{from_lists, listed_at, to_lists}
use Rattle.event_loop.proofs.Seats.{known, ok_still, shown}
use Rattle.event_loop.proofs.server.Server.round.Goals as goal

pub returns-clause-steps : goal.returns-clause-steps
returns-clause-steps g c =
    let was = c.self.inside.rounds.opened in
    let is = c.step.new.self.opened in
    rw (← c.self.view_is) (some_then c.steps_join.ensures _ _ _ (no_step g.C.LoopCore.steps _ _ (from_lists g.C.LoopCore.steps g.S.Stream.Wire.told was))
    (some_then c.steps_join.ensures _ _ _ c.step.ensures.lanes (no_step g.C.LoopCore.steps _ _ (to_lists g.C.LoopCore.steps g.S.Stream.Wire.told is))))

pub returns-clause-deaf : goal.returns-clause-deaf
returns-clause-deaf g c =
    let was = c.self.inside.rounds.opened in
    let is = c.step.new.self.opened in
    rw (← c.self.view_is) (λ h. record {
      deaf = c.step.ensures.deaf h;
      none_new = λ q e. listed_at is.connections q ∙ serves_no_new g.C.LoopCore.steps _ _ (c.step.ensures.on h) q (sym (listed_at was.connections q) ∙ e);
    })

pub returns-clause-woken : goal.returns-clause-woken
returns-clause-woken g c =
    let was = c.self.inside.rounds.opened in
    let is = c.step.new.self.opened in
    rw (← c.self.view_is) (λ h. ok_still _ _ c.step.result (λ k. shown is k) (c.step.ensures.woken (known was h)))

pub returns-clause-turns : goal.returns-clause-turns
returns-clause-turns g c =
    let was = c.self.inside.rounds.opened in
    let is = c.step.new.self.opened in
    rw (← c.self.view_is) (ok_still _ _ c.step.result (λ k. (was, is, refl, refl, k)) c.step.ensures.turns)
