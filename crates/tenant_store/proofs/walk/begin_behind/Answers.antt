use Rattle.std.proofs.Common.{◌≡◌, ◌+◌, ◌<◌, ◌≤◌, length, IfOk, refl, sym, ◌∙◌, subst, arith}
use Rattle.tape_select.specs.Budget.{budget}
use Rattle.query_machine.specs.Evaluators.{left_on, query_in}
use Rattle.tenant_map.specs.Kept.{texts}
use Rattle.tenant_store.specs.TextsRead.{texts_read}
use Rattle.tenant_store.specs.Walks.{IsLittle, cut_of, last_of, left_by, spent_on}
use Rattle.tenant_store.proofs.Passing.{begins_at, last_all, length-read}
use Rattle.tenant_store.proofs.Visiting.{ready_at_rest}
use Rattle.tenant_store.proofs.walk.begin_behind.Goals as goal

pub go_on-requires-clause-at : goal.go_on-requires-clause-at
go_on-requires-clause-at c =
    begins_at (query_in c.args.evaluator.now) c.args.documents.now.entries _ c.len-start.result c.args.out.now.items c.extend_from_slice.new.self.items c.big_endian.result
    (c.len-start.ensures ∙ c.args.out.now.ok.0) c.in_ok-extend_from_slice.ensures.items c.big_endian.ensures c.len.ensures.len refl refl

pub go_on-requires-clause-ready : goal.go_on-requires-clause-ready
go_on-requires-clause-ready c = ready_at_rest (last_of c.len.result (texts c.args.documents.now.entries)) budget c.args.evaluator.now c.requires.rest

pub returns-clause-step : goal.returns-clause-step
returns-clause-step c =
    let es = c.args.documents.now.entries in
    let q = query_in c.args.evaluator.now in
    let cut = cut_of c.go_on.new.evaluator.evaluation in
    let none : c.args.units + spent_on budget c.args.evaluator.now ≡ c.args.units = rw c.requires.rest.rest (omega arith) in
    subst (λ ts. IfOk c.go_on.result (λ to. to.documents ≡ length (left_by q c.args.units ts) + cut)) (last_all c.len.result (texts_read es) (c.len.ensures.len ∙ sym (length-read es)))
    (subst (λ n. IfOk c.go_on.result (λ to. to.documents ≡ length (left_by q n (last_of c.len.result (texts_read es))) + cut)) none c.go_on.ensures.step)

pub returns-clause-spent : goal.returns-clause-spent
returns-clause-spent c =
    subst (λ o. IfOk c.go_on.result (λ to. 1 ≤ to.documents → c.args.units + left_on to.units c.go_on.new.evaluator.evaluation < left_on budget o)) c.requires.rest.rest c.go_on.ensures.spent

pub returns-clause-little : goal.returns-clause-little
returns-clause-little c =
    let es = c.args.documents.now.entries in
    let q = query_in c.args.evaluator.now in
    subst (λ o. IfOk c.go_on.result (λ to. IsLittle q (texts es) (left_on budget o) (c.args.units + left_on to.units c.go_on.new.evaluator.evaluation))) c.requires.rest.rest c.go_on.ensures.little
