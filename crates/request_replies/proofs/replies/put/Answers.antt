use Rattle.std.proofs.Common.{refl, [], ap, ◌++◌}
use Rattle.wire_frames.specs.Requests.{Put}
use Rattle.wire_frames.specs.Replies.{reply}
use Rattle.request_replies.proofs.Steps.{gives_done, gives_fault, put_may_want}
use Rattle.request_replies.proofs.replies.put.Goals as goal

pub returns-in-Ok : goal.returns-in-Ok
returns-in-Ok c = λ n before. gives_done c.args.map.now c.put.new.self (Put c.args.collection.bytes.now c.args.document.bytes.now c.args.text.now) n before _ [] refl (c.in-Ok.ensures.accepted, refl)

pub returns-in-Err : goal.returns-in-Err
returns-in-Err c = λ n before.
    gives_fault c.args.map.now c.put.new.self (Put c.args.collection.bytes.now c.args.document.bytes.now c.args.text.now) n before _ c.in-Err.fault (ap (λ s. before ++ reply s n []) c.status.ensures) c.in-Err.ensures.unchanged
    (λ z. (c.in-Err.fault, c.in-Err.ensures.refused, z, refl)) (λ m. put_may_want c.args.collection.bytes.now c.args.document.bytes.now c.args.text.now n c.args.map.now c.in-Err.fault c.in-Err.ensures.refused m)
