use Rattle.json_text.proofs.Names.{◌≡◌, ◌∙◌, ◌+◌, not, eqb, sym, ap, subst, arith, ℕ, Option, Result, Ok}
use Rattle.json_walk.proofs.Names.{BuildFault, IsListed, WalksValue, at, DuplicateCheck}
use Rattle.json_walk.specs.Walked.{width, shape_of}
use Rattle.json_walk.proofs.WalkContainer.{entered_none, entered_some, may_continue, child_walks, next_may_continue, walks_ended, child_fault, few_halts, walked_onward, if_ok}
use Rattle.json_walk.proofs.WalkSteps.{halts_more}
use Rattle.json_walk.proofs.CheckSteps.{where_some}
use Rattle.json_walk.proofs.second_stage.run.Given.{Over}
use Rattle.json_walk.proofs.second_stage.run.Goals.{After-child}
use Rattle.json_walk.proofs.second_stage.run.Goals as goal

pub returns-in-Ok-None-clause-walks : goal.returns-in-Ok-None-clause-walks
returns-in-Ok-None-clause-walks g c = entered_none c.args.looks.now.0 c.args.places.now c.requires.listed _ _ _ _ c.in-Ok-None.field-0 _ _ c.in-Ok-None.field-0-is (c.in-Ok-None.ensures.entered c.args.may_exceed.now)

pub loop-k-init : goal.loop-k-init
loop-k-init g c =
    let entered = entered_some c.args.looks.now.0 c.args.places.now c.requires.listed _ _ _ _ _ c.in-Ok-Some.field-0 _ _ c.in-Ok-Some.field-0-is (c.in-Ok-Some.ensures.entered c.args.may_exceed.now) in
    let inside = c.in-Ok-Some.ensures.inside in let next = entered.1 in
    grind (arith, may_continue c.args.looks.now.0 c.args.places.now c.requires.listed _ _ _ _ _ _ _ c.requires.level entered.2)

pub child-requires-clause-listed : goal.child-requires-clause-listed
child-requires-clause-listed g c = subst (λ b. IsListed b c.args.places.now) (sym c.loop-k.invariant.same) c.requires.listed

pub child-requires-clause-level : goal.child-requires-clause-level
child-requires-clause-level g c = c.loop-k.invariant.level ∙ c.requires.level

pub child-requires-clause-checked : goal.child-requires-clause-checked
child-requires-clause-checked g c = subst (λ b. DuplicateCheck b c.loop-k.builder c.loop-k.seen) (sym c.loop-k.invariant.same) c.loop-k.invariant.checked

pub child-requires-clause-has_slot : goal.child-requires-clause-has_slot
child-requires-clause-has_slot g c = c.loop-k.invariant.has_slot

pub returns-in-Err-child-clause-same : goal.returns-in-Err-child-clause-same
returns-in-Err-child-clause-same g c = c.in-Err-child.ensures.same ∙ c.loop-k.invariant.same

pub returns-in-Err-child-clause-walks : goal.returns-in-Err-child-clause-walks
returns-in-Err-child-clause-walks g c =
    child_fault c.args.looks.now.0 c.args.places.now c.requires.listed c.loop-k.looks.0 (at c.args.spot c.args.builder.now c.args.looks.now.1 c.args.may_exceed.now) c.loop-k.k c.loop-k.looks.1 c.child.new.looks.1 c.loop-k.may_exceed c.child.new.may_exceed _ _ c.loop-k.builder c.child.new.builder c.child.result c.in-Err-child.fault
    c.requires.level c.loop-k.invariant.same c.loop-k.invariant.continues c.in-Err-child.is c.child.ensures.walks

-- what a child shows, by what it gave
walks : (g : Over) (c : After-child g) (n : ℕ) (r : Result (Option ℕ) BuildFault) → c.child.result ≡ r → n ≡ c.loop-k.k + width (shape_of (not (eqb g.row.OBJECT 0)))
    → WalksValue c.args.looks.now.0 c.args.places.now (at c.args.spot c.args.builder.now c.args.looks.now.1 c.args.may_exceed.now) (shape_of (not (eqb g.row.OBJECT 0))) n r c.child.new.builder c.child.new.looks.1 c.child.new.may_exceed
walks g c n r is size =
    child_walks c.args.looks.now.0 c.args.places.now c.requires.listed c.loop-k.looks.0 _ c.loop-k.k n c.loop-k.looks.1 c.child.new.looks.1 c.loop-k.may_exceed c.child.new.may_exceed _ _ c.loop-k.builder c.child.new.builder c.child.result r
    c.requires.level c.loop-k.invariant.same c.loop-k.invariant.continues is size c.child.ensures.walks

pub returns-in-Ok-None-child-clause-walks : goal.returns-in-Ok-None-child-clause-walks
returns-in-Ok-None-child-clause-walks g c =
    (walks g (goal.at.returns-in-Ok-None-child-clause-walks g c).After-child _ _ (c.in-Ok-None-child.is ∙ ap Ok c.in-Ok-None-child.field-0-is) (ap (λ x. c.loop-k.k + x) c.width-in-Ok-None-child.ensures.value)).0

pub returns-in-Ok-None-child-clause-opened : goal.returns-in-Ok-None-child-clause-opened
returns-in-Ok-None-child-clause-opened g c = λ first.
    (walks g (goal.at.returns-in-Ok-None-child-clause-opened g c).After-child _ _ (c.in-Ok-None-child.is ∙ ap Ok c.in-Ok-None-child.field-0-is) (ap (λ x. c.loop-k.k + x) c.width-in-Ok-None-child.ensures.value)).1

pub loop-k-preserved : goal.loop-k-preserved
loop-k-preserved g c =
    let n = c.loop-k.k + c.width-in-Ok-Some-eq44.result in let same = c.width-in-Ok-Some-eq44.ensures.value ∙ sym c.width.ensures.value in
    let found = walks g (goal.at.loop-k-preserved g c).After-child n _ (c.in-Ok-Some-eq44.is ∙ ap Ok c.in-Ok-Some-eq44.field-0-is) (ap (λ x. c.loop-k.k + x) c.width-in-Ok-Some-eq44.ensures.value) in
    record {
      same = c.in-Ok-Some-eq44.ensures.same ∙ c.loop-k.invariant.same;
      level = found.1 ∙ sym c.requires.level;
      continues = next_may_continue _ _ c.requires.listed _ n _ c.child.new.looks.1 c.child.new.may_exceed _ _ c.child.new.builder c.in-Ok-Some-eq44.field-0-0 c.requires.level (omega arith) (omega arith) found;
      to = omega (arith, same);
      checked = subst (λ b. DuplicateCheck b c.child.new.builder c.child.new.seen) c.loop-k.invariant.same c.in-Ok-Some-eq44.ensures.checked;
      has_slot = where_some _ c.in-Ok-Some-eq44.field-0 c.in-Ok-Some-eq44.field-0-0 c.in-Ok-Some-eq44.field-0-is c.in-Ok-Some-eq44.ensures.has_slot;
    }

pub ended-requires-clause-level : goal.ended-requires-clause-level
ended-requires-clause-level g c =
    (walks g (goal.at.ended-requires-clause-level g c).After-child _ _ (c.in-Ok-Some-child.is ∙ ap Ok c.in-Ok-Some-child.field-0-is) (ap (λ x. c.loop-k.k + x) c.width-in-Ok-Some-child.ensures.value)).1

pub returns-in-Ok-Some-child-clause-walks : goal.returns-in-Ok-Some-child-clause-walks
returns-in-Ok-Some-child-clause-walks g c = let n = c.loop-k.k + c.width-in-Ok-Some-child.result in
    let found = walks g (goal.at.returns-in-Ok-Some-child-clause-walks g c).After-child n _ (c.in-Ok-Some-child.is ∙ ap Ok c.in-Ok-Some-child.field-0-is) (ap (λ x. c.loop-k.k + x) c.width-in-Ok-Some-child.ensures.value) in
    walks_ended _ _ c.requires.listed _ n c.child.new.looks.1 c.child.new.may_exceed _ c.child.new.builder c.ended.new.builder c.in-Ok-Some-child.sign c.ended.result found (c.ended.ensures.walks _ c.child.new.looks.1 c.child.new.may_exceed c.requires.listed)

pub returns-in-Ok-Some-child-clause-further : goal.returns-in-Ok-Some-child-clause-further
returns-in-Ok-Some-child-clause-further g c = let continues = c.loop-k.invariant.continues _ c.requires.level in
    let on = walked_onward c.args.looks.now.0 c.args.places.now c.requires.listed _ _ continues.2 in
    let same = c.width-in-Ok-Some-child.ensures.value ∙ sym c.width.ensures.value in let test = c.loop-k-test.true in
    if_ok c.ended.result (λ next h. (let e = h.0 in omega (arith, on, e), let e = h.0 in omega (arith, e, same, test))) c.ended.ensures.behind

pub returns-in-Ok-Some-child-clause-opened : goal.returns-in-Ok-Some-child-clause-opened
returns-in-Ok-Some-child-clause-opened g c = if_ok c.ended.result (λ next h first level. let e = h.1 in cc) c.ended.ensures.behind

pub returns-clause-walks : goal.returns-clause-walks
returns-clause-walks g c =
    let continues = c.loop-k.invariant.continues _ c.requires.level in let test = c.loop-k-test.false in let size = c.width.ensures.value in
    halts_more c.args.looks.now.0 c.args.places.now continues.2
    (few_halts c.args.looks.now.0 c.args.places.now c.requires.listed c.loop-k.k c.loop-k.looks.1 c.loop-k.may_exceed c.loop-k.builder _ continues.0 (omega (arith, test, size)) (c.loop-k.invariant.level ∙ c.requires.level) continues.1)

pub returns-then-k-bound-clause-walks : goal.returns-then-k-bound-clause-walks
returns-then-k-bound-clause-walks g c =
    (walks g (goal.at.returns-then-k-bound-clause-walks g c).After-child _ _ (c.in-Ok-Some-eq44.is ∙ ap Ok c.in-Ok-Some-eq44.field-0-is) (ap (λ x. c.loop-k.k + x) c.width-then-k-bound.ensures.value)).0
