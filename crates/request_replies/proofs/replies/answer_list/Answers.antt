use Rattle.std.proofs.Common.{refl, ap, ◌∙◌, ◌++◌, [], length, arith, ◌≡◌}
use Rattle.tenant_map.specs.Statuses.{status_of}
use Rattle.wire_frames.specs.Requests.{ListNames}
use Rattle.wire_frames.specs.Replies.{reply}
use Rattle.request_replies.proofs.Steps.{begun_and_done, gives_done, gives_memory, may_want_by, taken_back}
use Rattle.request_replies.proofs.replies.answer_list.Goals as goal

pub returns-in-Err : goal.returns-in-Err
returns-in-Err c =
    let start : c.len-start.result ≡ length c.args.out.now.items = omega (arith, c.len-start.ensures, c.args.out.now.ok.0) in
    gives_memory c.args.map.now c.args.map.now (ListNames c.args.collection.bytes.now) c.args.number c.args.out.now.items _
    (taken_back c.args.out.now.items c.begin.new.out.items c.list.new.out.items _ _ c.len-start.result start c.begin.ensures.items c.in-Err.ensures.unchanged c.take_back.ensures
    ∙ ap (λ e. c.args.out.now.items ++ reply (status_of e) c.args.number []) c.in-Err.ensures.named) refl
    (may_want_by (ListNames c.args.collection.bytes.now) c.args.number c.args.map.now refl (λ s h. absurd h))

pub returns-in-Ok : goal.returns-in-Ok
returns-in-Ok c =
    let start : c.len-start.result ≡ length c.args.out.now.items = omega (arith, c.len-start.ensures, c.args.out.now.ok.0) in
    gives_done c.args.map.now c.args.map.now (ListNames c.args.collection.bytes.now) c.args.number c.args.out.now.items _ _
    (begun_and_done c.args.out.now.items c.begin.new.out.items c.list.new.out.items _ _ c.args.number c.len-start.result start c.begin.ensures.items (omega (arith, c.begin.ensures.len, c.args.out.now.ok.0, c.begin.new.out.ok.0)) c.in-Ok.ensures.written c.finish.ensures) (refl, refl)
