use Rattle.std.proofs.Common.{refl, [], ap, ◌++◌}
use Rattle.wire_frames.specs.Requests.{Remove}
use Rattle.wire_frames.specs.Replies.{reply}
use Rattle.request_replies.proofs.Steps.{gives_done, gives_missing}
use Rattle.request_replies.proofs.replies.remove.Goals as goal

pub returns-in-Ok : goal.returns-in-Ok
returns-in-Ok c = λ n before. gives_done c.args.map.now c.remove.new.self (Remove c.args.collection.bytes.now c.args.document.bytes.now) n before _ [] refl (c.in-Ok.ensures.there, refl, c.in-Ok.ensures.removed)

pub returns-in-Err : goal.returns-in-Err
returns-in-Err c = λ n before.
    gives_missing c.args.map.now c.remove.new.self (Remove c.args.collection.bytes.now c.args.document.bytes.now) n before _ c.in-Err.fault (ap (λ s. before ++ reply s n []) c.status.ensures) c.in-Err.ensures.unchanged
    c.in-Err.ensures.named (λ x. (c.in-Err.fault, c.in-Err.ensures.refused, x, refl))
