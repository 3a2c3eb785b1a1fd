use Rattle.std.proofs.Common.{refl, [], ap, ◌++◌, ◌∙◌, length, arith, ◌≡◌, inr}
use Rattle.tenant_store.specs.Payloads.{payload}
use Rattle.wire_frames.specs.Requests.{Query}
use Rattle.wire_frames.specs.Replies.{reply}
use Rattle.request_replies.specs.Shares.{tree_of}
use Rattle.request_replies.proofs.Steps.{begun_and_done, gives_done, gives_fault, gives_memory, query_may_want, taken_back}
use Rattle.request_replies.proofs.queries.share_query.Goals as goal

pub returns-in-Ok-Complete-clause-answers : goal.returns-in-Ok-Complete-clause-answers
returns-in-Ok-Complete-clause-answers c =
    let start : c.len-start.result ≡ length c.args.out.now.items = omega (arith, c.len-start.ensures, c.args.out.now.ok.0) in
    let r = rw c.in-Ok-Complete.field-0-is at c.in-Ok-Complete.ensures.reached in
    let a = r.0 in
    let q = tree_of c.args.stage in
    let bytes = payload q a.texts in
    λ text valid. (
      gives_done c.args.map.now c.args.map.now (Query c.args.collection.bytes.now text) c.args.number c.args.out.now.items _ bytes
          (begun_and_done c.args.out.now.items c.begin.new.out.items c.run_query.new.out.items _ bytes c.args.number c.len-start.result start c.begin.ensures.items (omega (arith, c.begin.ensures.len, c.args.out.now.ok.0, c.begin.new.out.ok.0)) a.appended c.finish.ensures)
          ((q, valid, record { texts = a.texts; read = a.read; no_fault = a.no_fault; appended = refl }), refl),
      (q, valid, r.1),
    )

pub returns-clause-answers : goal.returns-clause-answers
returns-clause-answers c =
    let start : c.len-start.result ≡ length c.args.out.now.items = omega (arith, c.len-start.ensures, c.args.out.now.ok.0) in
    λ text valid. (
      gives_fault c.args.map.now c.args.map.now (Query c.args.collection.bytes.now text) c.args.number c.args.out.now.items _ c.in-Err.fault
          (taken_back c.args.out.now.items c.begin.new.out.items c.run_query.new.out.items _ _ c.len-start.result start c.begin.ensures.items c.in-Err.ensures.unchanged c.take_back.ensures) refl
          (λ z. inr (tree_of c.args.stage, valid, (c.in-Err.fault, c.in-Err.ensures.refused, z, refl))) (λ m. query_may_want c.args.collection.bytes.now text c.args.number c.args.map.now valid.short),
      tt,
    )

pub returns-in-Ok-Paused-clause-answers : goal.returns-in-Ok-Paused-clause-answers
returns-in-Ok-Paused-clause-answers c =
    let start : c.len-start.result ≡ length c.args.out.now.items = omega (arith, c.len-start.ensures, c.args.out.now.ok.0) in
    let r = rw c.in-Ok-Paused.field-0-is at c.in-Ok-Paused.ensures.reached in
    λ text valid. (
      gives_memory c.args.map.now c.args.map.now (Query c.args.collection.bytes.now text) c.args.number c.args.out.now.items _
          (taken_back c.args.out.now.items c.begin.new.out.items c.run_query.new.out.items _ _ c.len-start.result start c.begin.ensures.items r.1 (c.write_small.ensures ∙ ap (λ x. x ++ reply 21 c.args.number []) c.truncate.ensures.items)) refl
          (query_may_want c.args.collection.bytes.now text c.args.number c.args.map.now valid.short),
      tt,
    )
