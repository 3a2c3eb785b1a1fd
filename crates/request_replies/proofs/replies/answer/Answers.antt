use Rattle.std.proofs.Common.{◌≡◌, [], ◌++◌, subst, sym, ap, ◌∙◌}
use Rattle.std.specs.Prelude.{Box, IfSome}
use Rattle.std.specs.declared.alloc.Global.{Global}
use Rattle.path_grammar.specs.View.{query_view}
use Rattle.path_types.specs.Verdict.{IsValidQuery}
use Rattle.tenant_store.specs.Walks.{query_of}
use Rattle.tenant_store.specs.declared.tasks.QueryTask.{QueryTask}
use Rattle.wire_frames.specs.Readings.{asked_of}
use Rattle.wire_frames.specs.Replies.{reply}
use Rattle.wire_frames.specs.Requests.{Query}
use Rattle.request_replies.specs.Shares.{IsUnderWay, Spends, left_with}
use Rattle.request_replies.proofs.Steps.{gives_query_fault, settled}
use Rattle.request_replies.proofs.Shares.{answers_none, goes_at, of_tree, spends_on}
use Rattle.request_replies.proofs.replies.answer.Goals as goal

pub returns-in-Some-clause-answers : goal.returns-in-Some-clause-answers
returns-in-Some-clause-answers c =
    let asked = asked_of c.args.request.now.command in
    let e : asked ≡ Query c.in-Query.collection.bytes.now c.in-Query.query.now = ap asked_of c.in-Query.is in
    let going = subst (λ o. IfSome o (λ (k : Box QueryTask Global). IsUnderWay asked c.args.map.now k.value)) c.in-Some.is c.requires.going in
    let goes = goes_at asked c.in-Query.collection.bytes.now c.in-Query.query.now c.args.map.now c.in-Some.task.value e going in
    of_tree c.share_query.result asked (query_of c.in-Some.task.value) c.in-Query.collection.bytes.now c.in-Query.query.now c.args.request.now.number c.args.map.now c.args.out.now.items c.share_query.new.out.items e goes.valid c.share_query.ensures.answers

pub returns-in-Ok-clause-answers : goal.returns-in-Ok-clause-answers
returns-in-Ok-clause-answers c =
    of_tree c.share_query-in-Ok.result (asked_of c.args.request.now.command) (query_view c.query.result.now) c.in-Query.collection.bytes.now c.in-Query.query.now c.args.request.now.number c.args.map.now c.args.out.now.items c.share_query-in-Ok.new.out.items
    (ap asked_of c.in-Query.is) (subst (λ q. IsValidQuery c.in-Query.query.now (query_view q)) (sym c.query.ensures) c.in-Ok.ensures.valid) c.share_query-in-Ok.ensures.answers

pub returns-in-Query-clause-answers : goal.returns-in-Query-clause-answers
returns-in-Query-clause-answers c =
    answers_none c.args.request.now.command _ c.args.request.now.number c.args.map.now c.args.map.now c.args.out.now.items _ c.in-Query.is
    (gives_query_fault c.args.map.now c.in-Query.collection.bytes.now c.in-Query.query.now c.args.request.now.number c.args.out.now.items _ c.in-Err.fault
    (c.write_small.ensures ∙ ap (λ s. c.args.out.now.items ++ reply s c.args.request.now.number []) c.status_of_query.ensures) c.in-Err.ensures.refused)

pub returns-in-Put-clause-answers : goal.returns-in-Put-clause-answers
returns-in-Put-clause-answers c =
    answers_none c.args.request.now.command _ c.args.request.now.number c.args.map.now c.put-status.new.map c.args.out.now.items _ c.in-Put.is
    (settled c.args.map.now c.put-status.new.map _ c.args.request.now.number c.args.out.now.items _ c.put-status.result c.put-status.ensures c.write_small-in-Put.ensures)

pub returns-in-PutNew-clause-answers : goal.returns-in-PutNew-clause-answers
returns-in-PutNew-clause-answers c =
    answers_none c.args.request.now.command _ c.args.request.now.number c.args.map.now c.put_new-status.new.map c.args.out.now.items _ c.in-PutNew.is
    (settled c.args.map.now c.put_new-status.new.map _ c.args.request.now.number c.args.out.now.items _ c.put_new-status.result c.put_new-status.ensures c.write_small-in-PutNew.ensures)

pub returns-in-Remove-clause-answers : goal.returns-in-Remove-clause-answers
returns-in-Remove-clause-answers c =
    answers_none c.args.request.now.command _ c.args.request.now.number c.args.map.now c.remove-status.new.map c.args.out.now.items _ c.in-Remove.is
    (settled c.args.map.now c.remove-status.new.map _ c.args.request.now.number c.args.out.now.items _ c.remove-status.result c.remove-status.ensures c.write_small-in-Remove.ensures)

pub returns-in-DropCollection-clause-answers : goal.returns-in-DropCollection-clause-answers
returns-in-DropCollection-clause-answers c =
    answers_none c.args.request.now.command _ c.args.request.now.number c.args.map.now c.drop_collection-status.new.map c.args.out.now.items _ c.in-DropCollection.is
    (settled c.args.map.now c.drop_collection-status.new.map _ c.args.request.now.number c.args.out.now.items _ c.drop_collection-status.result c.drop_collection-status.ensures c.write_small-in-DropCollection.ensures)

pub returns-in-Get-clause-answers : goal.returns-in-Get-clause-answers
returns-in-Get-clause-answers c = answers_none c.args.request.now.command _ c.args.request.now.number c.args.map.now c.args.map.now c.args.out.now.items _ c.in-Get.is c.answer_get.ensures

pub returns-in-List-clause-answers : goal.returns-in-List-clause-answers
returns-in-List-clause-answers c = answers_none c.args.request.now.command _ c.args.request.now.number c.args.map.now c.args.map.now c.args.out.now.items _ c.in-List.is c.answer_list.ensures

pub returns-clause-answers : goal.returns-clause-answers
returns-clause-answers c = answers_none c.args.request.now.command _ c.args.request.now.number c.args.map.now c.args.map.now c.args.out.now.items _ c.in-Usage.is c.answer_usage.ensures

pub returns-in-Some-clause-little : goal.returns-in-Some-clause-little
returns-in-Some-clause-little c =
    let asked = asked_of c.args.request.now.command in
    let e : asked ≡ Query c.in-Query.collection.bytes.now c.in-Query.query.now = ap asked_of c.in-Query.is in
    let going = subst (λ o. IfSome o (λ (k : Box QueryTask Global). IsUnderWay asked c.args.map.now k.value)) c.in-Some.is c.requires.going in
    let goes = goes_at asked c.in-Query.collection.bytes.now c.in-Query.query.now c.args.map.now c.in-Some.task.value e going in
    subst (λ o. Spends c.share_query.result asked c.args.map.now c.args.units (left_with o)) (sym c.in-Some.is)
    (spends_on c.share_query.result asked (query_of c.in-Some.task.value) c.in-Query.collection.bytes.now c.in-Query.query.now c.args.map.now c.args.units _ e goes.valid c.share_query.ensures.little)

pub returns-in-Ok-clause-little : goal.returns-in-Ok-clause-little
returns-in-Ok-clause-little c =
    subst (λ o. Spends c.share_query-in-Ok.result (asked_of c.args.request.now.command) c.args.map.now c.args.units (left_with o)) (sym c.in-None.is)
    (spends_on c.share_query-in-Ok.result (asked_of c.args.request.now.command) (query_view c.query.result.now) c.in-Query.collection.bytes.now c.in-Query.query.now c.args.map.now c.args.units _
    (ap asked_of c.in-Query.is) (subst (λ q. IsValidQuery c.in-Query.query.now (query_view q)) (sym c.query.ensures) c.in-Ok.ensures.valid) c.share_query-in-Ok.ensures.little)
