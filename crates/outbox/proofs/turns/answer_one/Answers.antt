use Rattle.std.proofs.Common.{ap, inl, inr, refl, sym, ◌∙◌}
use Rattle.outbox.specs.Lines.{Line, is_open}
use Rattle.outbox.specs.Turns.{here, can_answer}
use Rattle.outbox.proofs.Advancing.{given}
use Rattle.outbox.proofs.Single.{clash, closed, right_true, nothing, replied_one, idle_one, last_one, refused_one, worked_one}
use Rattle.outbox.proofs.turns.answer_one.Goals as goal

pub returns-then-not-can_answer-clause-turned : goal.returns-then-not-can_answer-clause-turned
returns-then-not-can_answer-clause-turned g c wire = nothing 0 1 _ _ _ _ can_answer (here c.args.outbox.now wire (g.C.Core.seen c.args.core.now) (g.C.Core.left c.args.conn c.args.core.now) c.args.ready.now) (sym c.if-not-can_answer.ensures)

pub returns-in-Replied-clause-turned : goal.returns-in-Replied-clause-turned
returns-in-Replied-clause-turned g c wire =
    replied_one _ _ _ _ c.args.outbox.now c.answer_next.new.self wire c.args.ready.now (g.C.Core.seen c.args.core.now) (g.C.Core.seen c.answer_next.new.core) (g.C.Core.left c.args.conn c.args.core.now) (g.C.Core.left c.args.conn c.answer_next.new.core) c.in-Replied.ensures.owes.0
    (sym c.if-not-can_answer.ensures) c.in-Replied.ensures.owes.1 c.in-Replied.ensures.owes.2 c.in-Replied.ensures.owes.3

pub returns-in-Idle-clause-turned : goal.returns-in-Idle-clause-turned
returns-in-Idle-clause-turned g c wire =
    idle_one _ _ _ _ c.args.outbox.now c.answer_next.new.self wire c.args.ready.now (g.C.Core.seen c.args.core.now) (g.C.Core.seen c.answer_next.new.core) (g.C.Core.left c.args.conn c.args.core.now) (g.C.Core.left c.args.conn c.answer_next.new.core)
    (sym c.if-not-can_answer.ensures) c.in-Idle.ensures.owes.0 c.in-Idle.ensures.owes.1 c.in-Idle.ensures.owes.2 c.in-Idle.ensures.works

pub returns-in-Last-clause-turned : goal.returns-in-Last-clause-turned
returns-in-Last-clause-turned g c wire =
    last_one _ _ _ _ c.args.outbox.now c.answer_next.new.self c.end.new.self wire c.args.ready.now (g.C.Core.seen c.args.core.now) (g.C.Core.seen c.answer_next.new.core) (g.C.Core.left c.args.conn c.args.core.now) (g.C.Core.left c.args.conn c.answer_next.new.core) c.in-Last.ensures.owes.0
    (sym c.if-not-can_answer.ensures) c.in-Last.ensures.owes.1 c.in-Last.ensures.owes.2 c.end.ensures

pub returns-in-Refused-clause-turned : goal.returns-in-Refused-clause-turned
returns-in-Refused-clause-turned g c wire =
    refused_one _ _ _ _ c.args.outbox.now c.answer_next.new.self c.end-in-Refused.new.self wire c.args.ready.now (g.C.Core.seen c.args.core.now) (g.C.Core.seen c.answer_next.new.core) (g.C.Core.left c.args.conn c.args.core.now) (g.C.Core.left c.args.conn c.answer_next.new.core)
    (sym c.if-not-can_answer.ensures) c.in-Refused.ensures.owes.0 c.end-in-Refused.ensures c.in-Refused.ensures.owes.1

pub returns-in-Working-clause-turned : goal.returns-in-Working-clause-turned
returns-in-Working-clause-turned g c wire =
    worked_one _ _ _ _ c.args.outbox.now c.answer_next.new.self wire c.args.ready.now (g.C.Core.seen c.args.core.now) (g.C.Core.seen c.answer_next.new.core) (g.C.Core.left c.args.conn c.args.core.now) (g.C.Core.left c.args.conn c.answer_next.new.core)
    (sym c.if-not-can_answer.ensures) c.in-Working.ensures.owes.0 c.in-Working.ensures.owes.1 c.in-Working.ensures.works.0

pub returns-then-not-can_answer-clause-gone : goal.returns-then-not-can_answer-clause-gone
returns-then-not-can_answer-clause-gone g c can = clash (can_answer c.args.ready.now c.args.outbox.now) can (sym c.if-not-can_answer.ensures)

pub returns-in-Replied-clause-gone : goal.returns-in-Replied-clause-gone
returns-in-Replied-clause-gone g c can = inl (given _ _ _ _ _ _ c.in-Replied.ensures.owes.0 (right_true _ _ can) c.in-Replied.ensures.owes.1 c.in-Replied.ensures.owes.2)

pub returns-in-Idle-clause-gone : goal.returns-in-Idle-clause-gone
returns-in-Idle-clause-gone g c can = inr (inl refl)

pub returns-in-Last-clause-gone : goal.returns-in-Last-clause-gone
returns-in-Last-clause-gone g c can = inr (inr (inl (ap (λ (l : Line). is_open l.stage) c.end.ensures ∙ closed c.answer_next.new.self.stage)))

pub returns-in-Refused-clause-gone : goal.returns-in-Refused-clause-gone
returns-in-Refused-clause-gone g c can = inr (inr (inl (ap (λ (l : Line). is_open l.stage) c.end-in-Refused.ensures ∙ closed c.answer_next.new.self.stage)))

pub returns-in-Working-clause-gone : goal.returns-in-Working-clause-gone
returns-in-Working-clause-gone g c can = inr (inr (inr c.in-Working.ensures.works))
