use Rattle.std.proofs.Common.{◌∙◌, ℕ, List, true, false, drop, length, ap, refl}
use Rattle.outbox.specs.declared.answers.Step.TheVariants.{Replied, Last}
use Rattle.hub_server.specs.Measuring.{Measured}
use Rattle.hub_server.proofs.Counting.{appended, counted_reply, hub_appended}
use Rattle.hub_server.proofs.measured_hub.MeasuredHubLoopCore.answer.Goals as goal

pub returns-in-Replied-clause-appends : goal.returns-in-Replied-clause-appends
returns-in-Replied-clause-appends g c =
    let old : Measured = record { hub = c.self.inside.core.hub; metrics = c.self.inside.metrics } in
    let mid : Measured = record { hub = c.answer-answered.new.self.hub; metrics = c.self.inside.metrics } in
    rw (← c.self.view_is) (appended Replied c.count.result.step c.args.conn old c.count.new.self.seen c.args.out.now.items c.answer-answered.new.out.items (c.count.ensures.step ∙ c.timed.ensures.step ∙ c.in-Replied.is)
    (counted_reply false c.args.conn old mid c.count.new.self.seen _ _ _ _ _ (ap length c.as_slice-before.ensures.value) (c.behind.ensures ∙ ap (λ (xs : List ℕ). drop (length c.as_slice-before.result.now) xs) c.as_slice.ensures.value) refl
    (c.timed.ensures.asked ∙ c.answer-answered.ensures.asked) (hub_appended c.answer-answered.result.step Replied c.args.conn _ _ _ _ c.in-Replied.is c.answer-answered.ensures.appends) c.count.ensures.counts))

pub returns-in-Last-clause-appends : goal.returns-in-Last-clause-appends
returns-in-Last-clause-appends g c =
    let old : Measured = record { hub = c.self.inside.core.hub; metrics = c.self.inside.metrics } in
    let mid : Measured = record { hub = c.answer-answered.new.self.hub; metrics = c.self.inside.metrics } in
    rw (← c.self.view_is) (appended Last c.count-in-Last.result.step c.args.conn old c.count-in-Last.new.self.seen c.args.out.now.items c.answer-answered.new.out.items (c.count-in-Last.ensures.step ∙ c.timed-in-Last.ensures.step ∙ c.in-Last.is)
    (counted_reply true c.args.conn old mid c.count-in-Last.new.self.seen _ _ _ _ _ (ap length c.as_slice-before.ensures.value) (c.behind-in-Last.ensures ∙ ap (λ (xs : List ℕ). drop (length c.as_slice-before.result.now) xs) c.as_slice-in-Last.ensures.value) refl
    (c.timed-in-Last.ensures.asked ∙ c.answer-answered.ensures.asked) (hub_appended c.answer-answered.result.step Last c.args.conn _ _ _ _ c.in-Last.is c.answer-answered.ensures.appends) c.count-in-Last.ensures.counts))
