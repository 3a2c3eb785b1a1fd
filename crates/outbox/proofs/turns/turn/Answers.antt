use Rattle.std.proofs.Common.{ap, false, subst, sym, ◌≡◌, ◌∙◌}
use Rattle.std.specs.Prelude.{IsFalse}
use Rattle.outbox.specs.Turns.{Advances, can_answer, can_read, here}
use Rattle.outbox.proofs.Advancing.{advanced, no_answer, no_read, no_read_closed}
use Rattle.outbox.proofs.Counting.{all_moved}
use Rattle.outbox.proofs.Joining.{four}
use Rattle.outbox.proofs.Single.{flushed}
use Rattle.outbox.proofs.turns.turn.Goals as goal

pub returns-clause-turned : goal.returns-clause-turned
returns-clause-turned g c =
    four _ _ _ _ (here c.args.outbox.now (g.W.Wire.told c.args.wire.now) (g.C.Core.seen c.args.core.now) (g.C.Core.left c.args.conn c.args.core.now) c.args.ready.now)
    (here c.flush-before.new.outbox (g.W.Wire.told c.flush-before.new.wire) (g.C.Core.seen c.args.core.now) (g.C.Core.left c.args.conn c.args.core.now) c.flush-before.new.ready)
    (here c.feed-read.new.outbox (g.W.Wire.told c.feed-read.new.wire) (g.C.Core.seen c.feed-read.new.core) (g.C.Core.left c.args.conn c.feed-read.new.core) c.feed-read.new.ready)
    (here c.answer.new.outbox (g.W.Wire.told c.feed-read.new.wire) (g.C.Core.seen c.answer.new.core) (g.C.Core.left c.args.conn c.answer.new.core) c.answer.new.ready)
    (here c.flush-behind.new.outbox (g.W.Wire.told c.flush-behind.new.wire) (g.C.Core.seen c.answer.new.core) (g.C.Core.left c.args.conn c.answer.new.core) c.flush-behind.new.ready)
    (flushed _ _ _ _ c.args.outbox.now c.flush-before.new.outbox (g.W.Wire.told c.args.wire.now) (g.W.Wire.told c.flush-before.new.wire) c.args.ready.now c.flush-before.new.ready (g.C.Core.seen c.args.core.now) (g.C.Core.left c.args.conn c.args.core.now) c.flush-before.ensures.flushes)
    c.feed-read.ensures.turned
    (c.answer.ensures.turned (g.W.Wire.told c.feed-read.new.wire))
    (flushed _ _ _ _ c.answer.new.outbox c.flush-behind.new.outbox (g.W.Wire.told c.feed-read.new.wire) (g.W.Wire.told c.flush-behind.new.wire) c.answer.new.ready c.flush-behind.new.ready (g.C.Core.seen c.answer.new.core) (g.C.Core.left c.args.conn c.answer.new.core) c.flush-behind.ensures.flushes)

pub returns-clause-moved : goal.returns-clause-moved
returns-clause-moved g c =
    rw c.saturating_add.ensures (all_moved (g.W.Wire.told c.args.wire.now) (g.W.Wire.told c.flush-before.new.wire) (g.W.Wire.told c.feed-read.new.wire) (g.W.Wire.told c.flush-behind.new.wire) c.flush-before.result c.feed-read.result c.flush-behind.result
    c.flush-before.ensures.moved c.feed-read.ensures.moved c.flush-behind.ensures.moved)

pub returns-clause-advances : goal.returns-clause-advances
returns-clause-advances g c can held =
    let fed : (can_read c.flush-before.new.ready c.flush-before.new.outbox ≡ false) → here c.feed-read.new.outbox (g.W.Wire.told c.feed-read.new.wire) (g.C.Core.seen c.feed-read.new.core) (g.C.Core.left c.args.conn c.feed-read.new.core) c.feed-read.new.ready
    ≡ here c.flush-before.new.outbox (g.W.Wire.told c.flush-before.new.wire) (g.C.Core.seen c.args.core.now) (g.C.Core.left c.args.conn c.args.core.now) c.flush-before.new.ready = c.feed-read.ensures.turned.stays in
    advanced _ _ (g.C.Core.idle c.args.conn) (g.C.Core.over c.args.conn) c.args.outbox.now c.flush-before.new.outbox c.answer.new.outbox c.flush-behind.new.outbox
    (g.W.Wire.told c.args.wire.now) (g.W.Wire.told c.flush-before.new.wire) (g.W.Wire.told c.feed-read.new.wire) (g.W.Wire.told c.flush-behind.new.wire)
    c.args.ready.now c.flush-before.new.ready c.answer.new.ready c.flush-behind.new.ready
    (g.C.Core.seen c.args.core.now) (g.C.Core.seen c.answer.new.core) (g.C.Core.left c.args.conn c.args.core.now) (g.C.Core.left c.args.conn c.answer.new.core)
    can c.flush-before.ensures.flushes
    (λ h. let none = no_read c.flush-before.new.ready c.flush-before.new.outbox h in
    subst (λ m. Advances (g.C.Core.takes c.args.conn) (g.C.Core.answers c.args.conn) m (here c.answer.new.outbox (g.W.Wire.told c.feed-read.new.wire) (g.C.Core.seen c.answer.new.core) (g.C.Core.left c.args.conn c.answer.new.core) c.answer.new.ready)) (fed none)
    (c.answer.ensures.advances (ap (λ m. can_answer m.ready m.line) (fed none) ∙ h) (subst (λ k. IsFalse (g.C.Core.holds c.args.is_brief c.args.conn k)) (sym (c.feed-read.ensures.still none)) held)))
    (λ h. let none = no_read_closed c.flush-before.new.ready c.flush-before.new.outbox h in
    ap (λ m. m.line) ((c.answer.ensures.turned (g.W.Wire.told c.feed-read.new.wire)).stays (ap (λ m. can_answer m.ready m.line) (fed none) ∙ no_answer c.flush-before.new.ready c.flush-before.new.outbox h)) ∙ ap (λ m. m.line) (fed none))
    c.flush-behind.ensures.flushes
