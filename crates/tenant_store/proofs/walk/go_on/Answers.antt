use Rattle.std.proofs.Common.{◌≡◌, ◌≤◌, ◌+◌, ℕ, List, [], length, drop, sym, ap, ◌∙◌, subst, arith, inl, inr, refl}
use Rattle.std.proofs.lemmas.Result.{err_from_is_err_and}
use Rattle.std.specs.declared.vec.Vec.{Vec}
use Rattle.std.specs.declared.alloc.Global.{Global}
use Rattle.json_tape.specs.Document.{Doc}
use Rattle.query_machine.specs.Evaluators.{query_in}
use Rattle.tenant_map.specs.Kept.{AreKept, texts}
use Rattle.tenant_store.specs.TextsRead.{text_read, texts_read}
use Rattle.tenant_store.specs.Steps.{Visits}
use Rattle.tenant_store.specs.Walks.{IsReady, last_of, left_by, spent_on}
use Rattle.tenant_store.proofs.Passing.{adds_next, fails_next, few_left, front_kept, goes_on, kept_last, last_next, last_read, last_texts, length-last, sizes, step_none}
use Rattle.tenant_store.proofs.Visiting.{ends_at, ends_ready, ends_step, goes_behind, none_left, none_ready, ready_at_rest, ready_within, rests, step_on}
use Rattle.tenant_store.proofs.walk.go_on.Goals as goal

pub last_of-name-items-requires : goal.last_of-name-items-requires
last_of-name-items-requires c = few_left (query_in c.args.evaluator.now) c.args.documents.now.entries c.args.place (drop c.args.start c.args.out.now.items) c.requires.at

pub loop-name-init : goal.loop-name-init
loop-name-init c =
    let q = query_in c.args.evaluator.now in
    let es = c.args.documents.now.entries in
    let written = drop c.args.start c.args.out.now.items in
    let last : c.into_iter-name-iterator.result ≡ last_of c.args.place.documents es = c.into_iter-name-iterator.ensures.into_iter_gives ∙ c.last_of-name-items.ensures in
    let few : c.args.place.documents ≤ length es = few_left q es c.args.place written c.requires.at in
    let p = goes_on q es c.into_iter-name-iterator.result c.args.place written last c.requires.at in
    record {
      passes = p;
      left = sym (length-last c.args.place.documents es c.into_iter-name-iterator.result last few);
      last = last;
      ready = subst (λ ds. IsReady ds c.args.place.units c.args.evaluator.now) (sym (last_texts c.args.place.documents es c.into_iter-name-iterator.result last)) c.requires.ready;
      query = refl;
      step = ap (λ ts. left_by q (c.args.units + spent_on c.args.place.units c.args.evaluator.now) ts) (last_read c.args.place.documents es c.into_iter-name-iterator.result last);
      share = refl;
      kept = kept_last c.args.place.documents es c.into_iter-name-iterator.result last c.requires.kept;
      sizes = sizes q (texts_read es) (texts_read c.into_iter-name-iterator.result) c.args.place c.args.start c.args.out.now.items p c.requires.started;
      front = refl;
      room = omega arith;
    }

pub loop-name-preserved : goal.loop-name-preserved
loop-name-preserved c =
    let q = query_in c.args.evaluator.now in
    let es = c.args.documents.now.entries in
    let e : Vec ℕ Global × Doc = (c.in-Some.name.now, c.in-Some.document.now) in
    let i = c.loop-name.invariant in
    let place = c.loop-name.reached in
    let to = c.in_ok-to.to in
    let new = c.visit.new.evaluator in
    let v : Visits to q (text_read c.deref.result.now c.in-Some.document.now) c.loop-name.more place c.loop-name.evaluator new c.loop-name.out.items c.visit.new.out.items = rw i.query at c.in_ok-to.ensures.visits in
    let m = c.in-Some-more.is in
    let step = rw m at v.step in
    let share = rw m at v.share in
    let made = rw step.1 at v.passed in
    let n : length c.loop-name.name-iterator ≡ 1 + length c.next.new.self = ap (λ (ds : List (Vec ℕ Global × Doc)). length ds) c.in-Some.ensures.steps ∙ omega arith in
    let paid = step.0 in
    let before = i.share in
    record {
      passes = adds_next q es c.loop-name.name-iterator c.next.new.self e c.deref.result.now place to.place c.args.start c.loop-name.out.items c.visit.new.out.items c.in-Some.ensures.steps c.deref.ensures.value i.passes made i.sizes c.in_ok-to.ensures.sizes;
      left = omega (arith, made.left, i.left, n);
      last = last_next place.documents to.place.documents es c.loop-name.name-iterator c.next.new.self e i.last i.left c.in-Some.ensures.steps made.left;
      ready = ready_at_rest (texts c.next.new.self) to.place.units new (rests _ place.units new c.in_ok-to.ensures.ready step.1);
      query = c.in_ok-to.ensures.query ∙ i.query;
      step = goes_behind q c.loop-name.name-iterator c.next.new.self e c.loop-name.more (spent_on place.units c.loop-name.evaluator) c.in-Some-more.left to.place new _ c.in-Some.ensures.steps paid step.1 i.step;
      share = omega (arith, share, before);
      kept = (subst AreKept c.in-Some.ensures.steps i.kept).1;
      sizes = c.in_ok-to.ensures.sizes;
      front = front_kept c.args.start c.loop-name.out.items c.visit.new.out.items _ (omega (arith, i.sizes.long)) c.in_ok-to.ensures.kept i.front;
      room = omega (arith, i.room, c.in_ok-to.ensures.capacity);
    }

pub returns-in_err-to-clause-refused : goal.returns-in_err-to-clause-refused
returns-in_err-to-clause-refused c =
    let p = err_from_is_err_and c.from_residual.result c.from_residual.ensures.1 in
    let e : Vec ℕ Global × Doc = (c.in-Some.name.now, c.in-Some.document.now) in
    let i = c.loop-name.invariant in
    rw (p.1, p.2) (fails_next (query_in c.args.evaluator.now) c.args.documents.now.entries c.loop-name.name-iterator c.next.new.self e c.deref.result.now c.loop-name.reached c.args.start c.loop-name.out.items c.in_err-to.field-0.0 c.in-Some.ensures.steps
    c.deref.ensures.value i.passes i.sizes (rw i.query at c.in_err-to.ensures.refused))

pub returns-in_err-to-clause-front : goal.returns-in_err-to-clause-front
returns-in_err-to-clause-front c =
    let i = c.loop-name.invariant in
    front_kept c.args.start c.loop-name.out.items c.visit.new.out.items _ (omega (arith, i.sizes.long)) c.in_err-to.ensures.kept i.front

pub returns-in-None-more-clause-reached : goal.returns-in-None-more-clause-reached
returns-in-None-more-clause-reached c =
    let q = query_in c.args.evaluator.now in
    let es = c.args.documents.now.entries in
    let e : Vec ℕ Global × Doc = (c.in-Some.name.now, c.in-Some.document.now) in
    let i = c.loop-name.invariant in
    let v : Visits c.in_ok-to.to q (text_read c.deref.result.now c.in-Some.document.now) c.loop-name.more c.loop-name.reached c.loop-name.evaluator c.visit.new.evaluator c.loop-name.out.items c.visit.new.out.items = rw i.query at c.in_ok-to.ensures.visits in
    ends_at q es c.loop-name.name-iterator c.next.new.self e c.deref.result.now c.loop-name.reached c.in_ok-to.to.place c.visit.new.evaluator.evaluation c.args.start c.loop-name.out.items c.visit.new.out.items c.in-Some.ensures.steps c.deref.ensures.value i.left i.passes i.sizes c.in_ok-to.ensures.sizes v.passed

pub returns-in-None-more-clause-ready : goal.returns-in-None-more-clause-ready
returns-in-None-more-clause-ready c =
    let e : Vec ℕ Global × Doc = (c.in-Some.name.now, c.in-Some.document.now) in
    let i = c.loop-name.invariant in
    ends_ready c.args.documents.now.entries c.loop-name.name-iterator c.next.new.self e _ _ c.loop-name.reached c.in_ok-to.to.place c.visit.new.evaluator c.loop-name.out.items c.visit.new.out.items c.in-Some.ensures.steps i.last c.in_ok-to.ensures.ready c.in_ok-to.ensures.visits.passed

pub returns-in-None-more-clause-step : goal.returns-in-None-more-clause-step
returns-in-None-more-clause-step c =
    let q = query_in c.args.evaluator.now in
    let e : Vec ℕ Global × Doc = (c.in-Some.name.now, c.in-Some.document.now) in
    let i = c.loop-name.invariant in
    let v : Visits c.in_ok-to.to q (text_read c.deref.result.now c.in-Some.document.now) c.loop-name.more c.loop-name.reached c.loop-name.evaluator c.visit.new.evaluator c.loop-name.out.items c.visit.new.out.items = rw i.query at c.in_ok-to.ensures.visits in
    ends_step q c.loop-name.name-iterator c.next.new.self e c.deref.result.now c.in_ok-to.to c.loop-name.more c.loop-name.reached c.loop-name.evaluator c.visit.new.evaluator c.loop-name.out.items c.visit.new.out.items _ c.in-Some.ensures.steps i.left i.step v c.in-None-more.is

pub returns-in-None-more-clause-spent : goal.returns-in-None-more-clause-spent
returns-in-None-more-clause-spent c =
    let share = rw c.in-None-more.is at c.in_ok-to.ensures.visits.share in
    let before = c.loop-name.invariant.share in
    λ some. omega (arith, share, before)

pub returns-in-None-more-clause-all : goal.returns-in-None-more-clause-all
returns-in-None-more-clause-all c =
    let share = rw c.in-None-more.is at c.in_ok-to.ensures.visits.share in
    let before = c.loop-name.invariant.share in
    let within = ready_within (last_of c.args.place.documents (texts c.args.documents.now.entries)) c.args.place.units c.args.evaluator.now c.requires.ready in
    λ most. absurd (omega (arith, share, before, within, most))

pub returns-clause-step : goal.returns-clause-step
returns-clause-step c =
    let q = query_in c.args.evaluator.now in
    let i = c.loop-name.invariant in
    let none : c.loop-name.name-iterator ≡ [] = c.in-None.ensures.steps.0 in
    let all = step_none q c.loop-name.name-iterator (c.loop-name.more + spent_on c.loop-name.reached.units c.loop-name.evaluator) _ none i.step in
    let rest = none_ready c.loop-name.name-iterator c.loop-name.reached.units c.loop-name.evaluator none i.ready in
    none_left c.loop-name.name-iterator c.loop-name.reached.documents c.loop-name.evaluator _ i.left none all rest

pub returns-in-None-more-clause-little : goal.returns-in-None-more-clause-little
returns-in-None-more-clause-little c =
    let e : Vec ℕ Global × Doc = (c.in-Some.name.now, c.in-Some.document.now) in
    let i = c.loop-name.invariant in
    let share = i.share in
    inr (step_on (query_in c.args.evaluator.now) c.args.documents.now.entries c.loop-name.name-iterator c.next.new.self e c.loop-name.reached.documents c.loop-name.evaluator _ _ _ _ c.in-Some.ensures.steps i.last i.kept i.query
    c.in_ok-to.ensures.little (omega (arith, share)))

pub returns-clause-little : goal.returns-clause-little
returns-clause-little c = let share = c.loop-name.invariant.share in inl (omega (arith, share))
