use Rattle.std.proofs.lemmas.Bool.{MatchBool-at_true, MatchBool-at_false}
use Rattle.path_hub.proofs.Calls.{taken_none, taken_more, taken_all, taken_stays, left_at_falls}
use Rattle.path_hub.proofs.hub.Hub.bytes.Goals as goal

pub frames-init : goal.frames-init
frames-init c = taken_none c.args.conn c.args.piece.now c.args.self.now c.take.new.self c.args.out.now.items c.in-Ok.ensures

pub frames-smaller : goal.frames-smaller
frames-smaller c = left_at_falls c.splits_from_the_front.ensures c.args.conn c.frames.self c.answer_next.new.self c.frames.out.items c.answer_next.new.out.items (MatchBool-at_true _ _ c.in-Ok-true.field-0-test c.in-Ok-true.ensures.step)

pub frames-preserved : goal.frames-preserved
frames-preserved c = taken_more c.splits_from_the_front.ensures c.args.conn c.args.piece.now c.args.self.now c.frames.self c.answer_next.new.self c.args.out.now.items c.frames.out.items c.answer_next.new.out.items c.frames.invariant (MatchBool-at_true _ _ c.in-Ok-true.field-0-test c.in-Ok-true.ensures.step)

pub returns-in-Ok-false : goal.returns-in-Ok-false
returns-in-Ok-false c = taken_all c.args.conn c.args.piece.now c.args.self.now c.frames.self c.answer_next.new.self c.args.out.now.items c.frames.out.items c.answer_next.new.out.items c.frames.invariant (MatchBool-at_false _ _ c.in-Ok-false.field-0-test c.in-Ok-false.ensures.step)

pub returns-in-Err : goal.returns-in-Err
returns-in-Err c = taken_stays c.args.conn c.args.piece.now c.args.self.now c.frames.self c.answer_next.new.self c.args.out.now.items c.frames.out.items c.answer_next.new.out.items c.frames.invariant c.in-Err.ensures.due c.in-Err.ensures.unchanged c.in-Err.ensures.unwritten
