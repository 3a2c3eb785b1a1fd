use Rattle.std.proofs.lemmas.Bool.{MatchBool-at_true, MatchBool-at_false}
use Rattle.path_hub.proofs.Calls.{left_at_falls}
use Rattle.path_hub.proofs.Sent.{sending_starts, sending_answers, sending_sends, sends_all, sends_some}
use Rattle.path_hub.proofs.sending.send_replies.Goals as goal

pub frames-init : goal.frames-init
frames-init g c = sending_starts c.args.conn c.args.piece.now c.args.out.now.items c.args.hub.now c.take.new.self (g.W.Wire.meaning c.args.wire.now) c.requires.empty c.in-Ok.ensures

pub frames-smaller-then-len-ge-MOST_UNSENT : goal.frames-smaller-then-len-ge-MOST_UNSENT
frames-smaller-then-len-ge-MOST_UNSENT g c = left_at_falls c.splits_from_the_front.ensures c.args.conn c.frames.hub c.answer_next.new.self c.frames.out.items c.answer_next.new.out.items (MatchBool-at_true _ _ c.in-Ok-true.field-0-test c.in-Ok-true.ensures.step)

pub frames-smaller : goal.frames-smaller
frames-smaller g c = left_at_falls c.splits_from_the_front.ensures c.args.conn c.frames.hub c.answer_next.new.self c.frames.out.items c.answer_next.new.out.items (MatchBool-at_true _ _ c.in-Ok-true.field-0-test c.in-Ok-true.ensures.step)

pub frames-preserved-then-len-ge-MOST_UNSENT : goal.frames-preserved-then-len-ge-MOST_UNSENT
frames-preserved-then-len-ge-MOST_UNSENT g c =
    sending_sends c.args.conn c.args.piece.now c.answer_next.new.out.items c.send-written.new.out.items c.args.hub.now c.answer_next.new.self (g.W.Wire.meaning c.args.wire.now) (g.W.Wire.meaning c.frames.wire) (g.W.Wire.meaning c.send-written.new.wire) c.frames.written c.send-written.result
    (sending_answers c.splits_from_the_front.ensures c.args.conn c.args.piece.now c.frames.out.items c.answer_next.new.out.items c.args.hub.now c.frames.hub c.answer_next.new.self (g.W.Wire.meaning c.args.wire.now) (g.W.Wire.meaning c.frames.wire) c.frames.written c.frames.invariant (MatchBool-at_true _ _ c.in-Ok-true.field-0-test c.in-Ok-true.ensures.step))
    c.send-written.ensures.sent c.send-written.ensures.empty

pub frames-preserved : goal.frames-preserved
frames-preserved g c = sending_answers c.splits_from_the_front.ensures c.args.conn c.args.piece.now c.frames.out.items c.answer_next.new.out.items c.args.hub.now c.frames.hub c.answer_next.new.self (g.W.Wire.meaning c.args.wire.now) (g.W.Wire.meaning c.frames.wire) c.frames.written c.frames.invariant (MatchBool-at_true _ _ c.in-Ok-true.field-0-test c.in-Ok-true.ensures.step)

pub returns-in-Ok-false : goal.returns-in-Ok-false
returns-in-Ok-false g c = sends_all c.args.conn c.args.piece.now c.frames.out.items c.answer_next.new.out.items c.args.hub.now c.frames.hub c.answer_next.new.self (g.W.Wire.meaning c.args.wire.now) (g.W.Wire.meaning c.frames.wire) (g.W.Wire.meaning c.send.new.wire) c.frames.written c.send.result c.frames.invariant (MatchBool-at_false _ _ c.in-Ok-false.field-0-test c.in-Ok-false.ensures.step) c.send.ensures.sent

pub returns-in-Err : goal.returns-in-Err
returns-in-Err g c = sends_some c.args.conn c.args.piece.now c.frames.out.items c.answer_next.new.out.items c.args.hub.now c.frames.hub c.answer_next.new.self (g.W.Wire.meaning c.args.wire.now) (g.W.Wire.meaning c.frames.wire) (g.W.Wire.meaning c.send-in-Err.new.wire) c.frames.written c.send-in-Err.result c.frames.invariant c.in-Err.ensures.due c.in-Err.ensures.unchanged c.in-Err.ensures.unwritten c.send-in-Err.ensures.sent
