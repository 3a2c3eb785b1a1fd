use Rattle.std.proofs.Common.{ap, refl}
use Rattle.outbox.specs.Turns.{here}
use Rattle.outbox.proofs.Counting.{all_moved, none_moved}
use Rattle.outbox.proofs.Advancing.{advanced, no_answer, unheld}
use Rattle.outbox.proofs.Joining.{three}
use Rattle.outbox.proofs.Single.{flushed}
use Rattle.outbox.proofs.turns.reply.Goals as goal

pub returns-clause-turned : goal.returns-clause-turned
returns-clause-turned g c =
    three _ _ _ _ (here c.args.outbox.now (g.W.Wire.told c.args.wire.now) (g.C.Core.seen c.args.core.now) (g.C.Core.left c.args.conn c.args.core.now) c.args.ready.now)
    (here c.flush-before.new.outbox (g.W.Wire.told c.flush-before.new.wire) (g.C.Core.seen c.args.core.now) (g.C.Core.left c.args.conn c.args.core.now) c.flush-before.new.ready)
    (here c.answer_one.new.outbox (g.W.Wire.told c.flush-before.new.wire) (g.C.Core.seen c.answer_one.new.core) (g.C.Core.left c.args.conn c.answer_one.new.core) c.answer_one.new.ready)
    (here c.flush-behind.new.outbox (g.W.Wire.told c.flush-behind.new.wire) (g.C.Core.seen c.answer_one.new.core) (g.C.Core.left c.args.conn c.answer_one.new.core) c.flush-behind.new.ready)
    (flushed _ _ _ _ c.args.outbox.now c.flush-before.new.outbox (g.W.Wire.told c.args.wire.now) (g.W.Wire.told c.flush-before.new.wire) c.args.ready.now c.flush-before.new.ready (g.C.Core.seen c.args.core.now) (g.C.Core.left c.args.conn c.args.core.now) c.flush-before.ensures.flushes)
    (c.answer_one.ensures.turned (g.W.Wire.told c.flush-before.new.wire))
    (flushed _ _ _ _ c.answer_one.new.outbox c.flush-behind.new.outbox (g.W.Wire.told c.flush-before.new.wire) (g.W.Wire.told c.flush-behind.new.wire) c.answer_one.new.ready c.flush-behind.new.ready (g.C.Core.seen c.answer_one.new.core) (g.C.Core.left c.args.conn c.answer_one.new.core) c.flush-behind.ensures.flushes)

pub returns-clause-moved : goal.returns-clause-moved
returns-clause-moved g c =
    rw c.saturating_add.ensures (all_moved (g.W.Wire.told c.args.wire.now) (g.W.Wire.told c.flush-before.new.wire) (g.W.Wire.told c.flush-before.new.wire) (g.W.Wire.told c.flush-behind.new.wire) c.flush-before.result 0 c.flush-behind.result
    c.flush-before.ensures.moved (none_moved _ _ refl) c.flush-behind.ensures.moved)

pub returns-clause-advances : goal.returns-clause-advances
returns-clause-advances g c can held =
    advanced _ _ (g.C.Core.idle c.args.conn) (g.C.Core.over c.args.conn) c.args.outbox.now c.flush-before.new.outbox c.answer_one.new.outbox c.flush-behind.new.outbox
    (g.W.Wire.told c.args.wire.now) (g.W.Wire.told c.flush-before.new.wire) (g.W.Wire.told c.flush-before.new.wire) (g.W.Wire.told c.flush-behind.new.wire)
    c.args.ready.now c.flush-before.new.ready c.answer_one.new.ready c.flush-behind.new.ready
    (g.C.Core.seen c.args.core.now) (g.C.Core.seen c.answer_one.new.core) (g.C.Core.left c.args.conn c.args.core.now) (g.C.Core.left c.args.conn c.answer_one.new.core)
    can c.flush-before.ensures.flushes
    (λ h. unheld (g.C.Core.holds c.args.is_brief c.args.conn c.args.core.now) _ _
    (here c.flush-before.new.outbox (g.W.Wire.told c.flush-before.new.wire) (g.C.Core.seen c.args.core.now) (g.C.Core.left c.args.conn c.args.core.now) c.flush-before.new.ready)
    (here c.answer_one.new.outbox (g.W.Wire.told c.flush-before.new.wire) (g.C.Core.seen c.answer_one.new.core) (g.C.Core.left c.args.conn c.answer_one.new.core) c.answer_one.new.ready)
    held (c.answer_one.ensures.gone h))
    (λ h. ap (λ m. m.line) ((c.answer_one.ensures.turned (g.W.Wire.told c.flush-before.new.wire)).stays (no_answer c.flush-before.new.ready c.flush-before.new.outbox h)))
    c.flush-behind.ensures.flushes
