use Rattle.std.proofs.Common.{◌≡◌, ◌++◌, List, ℕ, refl, ap, ◌∙◌, arith}
use Rattle.std.proofs.lemmas.Result.{err_from_is_err_and}
use Rattle.tenant_store.specs.TextsRead.{texts_read}
use Rattle.tenant_store.specs.Walks.{query_of}
use Rattle.tenant_store.proofs.Walking.{names_fault}
use Rattle.tenant_store.proofs.Passing.{answers_at, charges_at, on_read, on_way, refuses_read, step_read}
use Rattle.tenant_store.proofs.Visiting.{left_uncut, little_for}
use Rattle.tenant_store.proofs.tasks.step.Goals as goal

pub go_on-requires-clause-at : goal.go_on-requires-clause-at
go_on-requires-clause-at c =
    let w = c.requires.on_way in
    on_read c.one_tree.ensures (query_of c.args.task) c.args.documents.now.entries c.args.task c.requires.kept w

pub go_on-requires-clause-ready : goal.go_on-requires-clause-ready
go_on-requires-clause-ready c = c.requires.on_way.ready

pub returns-in_err-place-clause-refused : goal.returns-in_err-place-clause-refused
returns-in_err-place-clause-refused c =
    let p = err_from_is_err_and c.from_residual.result c.from_residual.ensures.1 in
    rw (p.1, p.2) (refuses_read (query_of c.args.task) c.args.documents.now.entries c.in_err-place.field-0.0 c.requires.kept c.in_err-place.ensures.refused)

pub returns-in_err-place-clause-named : goal.returns-in_err-place-clause-named
returns-in_err-place-clause-named c =
    let p = err_from_is_err_and c.from_residual.result c.from_residual.ensures.1 in
    rw (p.1, p.2) (names_fault (query_of c.args.task) 0 4 (texts_read c.args.documents.now.entries) c.in_err-place.field-0.0 c.in_err-place.ensures.refused)

pub returns-then-place-gt0-clause-reached : goal.returns-then-place-gt0-clause-reached
returns-then-place-gt0-clause-reached c =
    let e = c.in_ok-place.ensures in
    (on_way (query_of c.args.task) c.args.documents.now.entries c.in_ok-place.place c.go_on.new.out.items c.go_on.new.evaluator _ c.requires.kept e.reached (omega (arith, c.if-place-gt0.true)) e.query e.ready refl refl refl, refl)

pub returns-then-place-gt0-clause-step : goal.returns-then-place-gt0-clause-step
returns-then-place-gt0-clause-step c =
    let e = c.in_ok-place.ensures in
    step_read (query_of c.args.task) c.args.documents.now.entries c.args.units _ _ _ _ c.requires.kept e.step (e.spent (omega (arith, c.if-place-gt0.true)))

pub returns-clause-reached : goal.returns-clause-reached
returns-clause-reached c =
    let q = query_of c.args.task in
    let es = c.args.documents.now.entries in
    let reached = c.in_ok-place.ensures.reached in
    let none : c.in_ok-place.place.documents ≡ 0 = omega (arith, c.if-place-gt0.false) in
    let payload = c.as_slice.ensures.value ∙ c.put_number.ensures.value in (
      answers_at q es c.in_ok-place.place c.go_on.new.out.items c.args.out.now.items c.extend_from_slice.new.self.items c.requires.kept reached none
          (c.in_ok-extend_from_slice.ensures.items ∙ ap (λ (x : List ℕ). c.args.out.now.items ++ x) payload),
      charges_at q es c.in_ok-place.place c.go_on.new.out.items _ c.requires.kept reached none refl,
    )

pub returns-clause-step : goal.returns-clause-step
returns-clause-step c =
    let step = c.in_ok-place.ensures.step in
    step_read (query_of c.args.task) c.args.documents.now.entries c.args.units _ _ _ _ c.requires.kept (omega (arith, step, c.if-place-gt0.false)) tt

pub returns-clause-little : goal.returns-clause-little
returns-clause-little c =
    let step = c.in_ok-place.ensures.step in
    let none = left_uncut c.in_ok-place.place.units c.go_on.new.evaluator.evaluation (omega (arith, step, c.if-place-gt0.false)) in
    let most = c.in_ok-place.ensures.sizes.budgeted in
    record { little = little_for (query_of c.args.task) _ _ _ _ c.in_ok-place.ensures.little (omega (arith, none, most)) }

pub returns-then-place-gt0-clause-little : goal.returns-then-place-gt0-clause-little
returns-then-place-gt0-clause-little c = record { little = c.in_ok-place.ensures.little }
