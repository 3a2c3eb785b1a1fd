use Rattle.std.proofs.Common.{◌≡◌, ◌+◌, ◌++◌, length, take, drop, ap, ◌∙◌, arith, refl}
use Rattle.std.proofs.lemmas.Result.{err_from_is_err_and}
use Rattle.path_grammar.specs.View.{query_view}
use Rattle.query_machine.specs.declared.evaluator.Evaluator.{Evaluator}
use Rattle.tape_select.specs.Budget.{budget}
use Rattle.tenant_map.specs.Listings.{number}
use Rattle.tenant_store.specs.declared.walk.Reached.{Reached}
use Rattle.tenant_store.specs.TextsRead.{texts_read}
use Rattle.tenant_store.specs.Walks.{cut_of}
use Rattle.tenant_store.proofs.Walking.{names_fault}
use Rattle.tenant_store.proofs.Passing.{answers_at, charges_at, on_way, refuses_memory, refuses_read, step_begun, written_over}
use Rattle.tenant_store.proofs.Visiting.{left_uncut, little_for}
use Rattle.tenant_store.proofs.tasks.begin.Goals as goal

pub returns-in_err-evaluator-clause-refused : goal.returns-in_err-evaluator-clause-refused
returns-in_err-evaluator-clause-refused c =
    let p = err_from_is_err_and c.from_residual.result c.from_residual.ensures.1 in
    rw (p.1, p.2) (refuses_memory (query_view c.args.query.now) c.args.documents.now.entries _ c.requires refl)

pub returns-in_err-task-in-Ok-clause-refused : goal.returns-in_err-task-in-Ok-clause-refused
returns-in_err-task-in-Ok-clause-refused c =
    let p = err_from_is_err_and c.from_residual-in_err-task-in-Ok.result c.from_residual-in_err-task-in-Ok.ensures.1 in
    rw (p.1, p.2) (refuses_memory (query_view c.args.query.now) c.args.documents.now.entries c.in_err-task-in-Ok.field-0.0 c.requires c.in_err-task-in-Ok.ensures.named)

pub returns-then-place-gt0-clause-reached : goal.returns-then-place-gt0-clause-reached
returns-then-place-gt0-clause-reached c =
    let written = c.begin_behind.new.out.items in
    let before : c.len-before.result ≡ length c.args.out.now.items = c.len-before.ensures ∙ c.args.out.now.ok.0 in
    let taken = c.in_ok-task-in-Ok.ensures.taken in
    let q = c.in_ok-evaluator.ensures.query in (
      on_way (query_view c.args.query.now) c.args.documents.now.entries c.in-Ok.place (drop (length c.args.out.now.items) written) c.begin_behind.new.evaluator c.in_ok-task-in-Ok.task c.requires (rw q at c.in-Ok.ensures.reached) (omega (arith, c.if-place-gt0.true))
          (c.in-Ok.ensures.query ∙ q) c.in-Ok.ensures.ready taken.0 taken.1 (taken.2 ∙ ap (λ k. drop k written) before),
      c.in_ok-task-in-Ok.ensures.left ∙ ap (λ k. take k written) before ∙ c.in-Ok.ensures.front,
    )

pub returns-then-place-gt0-clause-step : goal.returns-then-place-gt0-clause-step
returns-then-place-gt0-clause-step c =
    let taken = c.in_ok-task-in-Ok.ensures.taken in
    let e = c.in-Ok.ensures in
    let documents = ap (λ (p : Reached). p.documents) taken.1 in
    let cut = ap (λ (v : Evaluator). cut_of v.evaluation) taken.0 in
    step_begun (query_view c.args.query.now) c.args.documents.now.entries c.args.units _ c.requires (documents ∙ rw (c.in_ok-evaluator.ensures.query, ← cut) at e.step) (rw (taken.0, taken.1) (e.spent (omega (arith, c.if-place-gt0.true))))

pub returns-in-Err-clause-refused : goal.returns-in-Err-clause-refused
returns-in-Err-clause-refused c = refuses_read (query_view c.args.query.now) c.args.documents.now.entries c.in-Err.fault c.requires (rw c.in_ok-evaluator.ensures.query at c.in-Err.ensures.refused)

pub returns-in-Err-clause-named : goal.returns-in-Err-clause-named
returns-in-Err-clause-named c = names_fault (query_view c.args.query.now) 0 4 (texts_read c.args.documents.now.entries) c.in-Err.fault (rw c.in_ok-evaluator.ensures.query at c.in-Err.ensures.refused)

pub returns-clause-reached : goal.returns-clause-reached
returns-clause-reached c =
    let q = query_view c.args.query.now in
    let es = c.args.documents.now.entries in
    let old = c.args.out.now.items in
    let written = c.begin_behind.new.out.items in
    let before : c.len-before.result ≡ length old = c.len-before.ensures ∙ c.args.out.now.ok.0 in
    let none : c.in-Ok.place.documents ≡ 0 = omega (arith, c.if-place-gt0.false) in
    let reached = rw c.in_ok-evaluator.ensures.query at c.in-Ok.ensures.reached in
    let count = number c.in-Ok.place.hits in
    let over = c.put_number.ensures.value ∙ ap (λ k. take k written ++ (count ++ drop (k + 4) written)) before in (
      answers_at q es c.in-Ok.place (drop (length old) written) old c.put_number.new.out.items c.requires reached none (written_over old written c.put_number.new.out.items count c.in-Ok.ensures.front over),
      charges_at q es c.in-Ok.place (drop (length old) written) _ c.requires reached none refl,
    )

pub returns-clause-step : goal.returns-clause-step
returns-clause-step c =
    let step = rw c.in_ok-evaluator.ensures.query at c.in-Ok.ensures.step in
    step_begun (query_view c.args.query.now) c.args.documents.now.entries c.args.units _ c.requires (omega (arith, step, c.if-place-gt0.false)) tt

pub returns-then-place-gt0-clause-little : goal.returns-then-place-gt0-clause-little
returns-then-place-gt0-clause-little c =
    let taken = c.in_ok-task-in-Ok.ensures.taken in
    record { little = rw (taken.0, taken.1) (rw c.in_ok-evaluator.ensures.query at c.in-Ok.ensures.little) }

pub returns-clause-little : goal.returns-clause-little
returns-clause-little c =
    let step = c.in-Ok.ensures.step in
    let none = left_uncut c.in-Ok.place.units c.begin_behind.new.evaluator.evaluation (omega (arith, step, c.if-place-gt0.false)) in
    let most = c.in-Ok.ensures.sizes.budgeted in
    record { little = little_for (query_view c.args.query.now) _ budget _ _ (rw c.in_ok-evaluator.ensures.query at c.in-Ok.ensures.little) (omega (arith, none, most)) }
