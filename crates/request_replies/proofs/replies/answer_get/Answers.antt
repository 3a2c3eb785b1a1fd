use Rattle.std.proofs.Common.{refl, ap, ◌∙◌, ◌++◌, []}
use Rattle.wire_frames.specs.Requests.{Get}
use Rattle.wire_frames.specs.Replies.{reply}
use Rattle.tenant_map.specs.Maps.{text_at}
use Rattle.request_replies.proofs.Steps.{gives_done, gives_memory, gives_missing, may_want_by, not_missing}
use Rattle.request_replies.proofs.replies.answer_get.Goals as goal

pub returns-in-Err-write_reply : goal.returns-in-Err-write_reply
returns-in-Err-write_reply c =
    let asked = Get c.args.collection.bytes.now c.args.document.bytes.now in
    gives_memory c.args.map.now c.args.map.now asked c.args.number c.args.out.now.items _ (rw (← c.in-Err-write_reply.ensures.unchanged) c.write_small.ensures) refl
    (may_want_by asked c.args.number c.args.map.now refl (λ s h. not_missing (text_at c.args.collection.bytes.now c.args.document.bytes.now c.args.map.now) c.in-Ok.text.now s c.in-Ok.ensures.found h))

pub returns-in-Ok-write_reply : goal.returns-in-Ok-write_reply
returns-in-Ok-write_reply c =
    let asked = Get c.args.collection.bytes.now c.args.document.bytes.now in
    gives_done c.args.map.now c.args.map.now asked c.args.number c.args.out.now.items _ c.in-Ok.text.now c.in-Ok-write_reply.ensures.appended (c.in-Ok.ensures.found, refl)

pub returns-in-Err : goal.returns-in-Err
returns-in-Err c =
    let asked = Get c.args.collection.bytes.now c.args.document.bytes.now in
    gives_missing c.args.map.now c.args.map.now asked c.args.number c.args.out.now.items _ c.in-Err.fault
    (c.write_small-in-Err.ensures ∙ ap (λ s. c.args.out.now.items ++ reply s c.args.number []) c.status.ensures) refl c.in-Err.ensures.named (λ x. (c.in-Err.fault, c.in-Err.ensures.refused, x, refl))
