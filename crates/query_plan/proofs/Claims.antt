-- Slots with numbers in order are found.
use Rattle.std.proofs.Common.{◌≡◌, ℕ, ◌+◌, ◌<◌, ◌≤◌, Bool, true, false, List, [], ◌∷◌, ◌++◌, map, length, drop, get_or, Option, Some, None, refl, ap, ◌∙◌, arith, cond, nat_eq}
use Rattle.std.specs.Prelude.{IsTrue}
use Rattle.std.proofs.lemmas.Bool.Decides.{nat_tests}
use Rattle.std.proofs.lemmas.List.{drop_more}
use Rattle.path_grammar.specs.Tree.{Expr}
use Rattle.decisions.specs.Decided.{is_told_on}
use Rattle.decisions.specs.declared.scale.Scale.{Scale}
use Rattle.query_plan.specs.Planned.{Claimed, Claims, no_claims, claim, a_condition, told, both, With, look, or_else, then_numbered, numbered, all_claims, claims_of, condition_view, selection_view, stage_view}
use Rattle.query_plan.specs.Slots.{AreClaimed}
use Rattle.query_plan.specs.declared.plan.Condition.{Condition}
use Rattle.query_plan.specs.declared.plan.Selection.{Selection}
use Rattle.query_plan.specs.declared.plan.Stage.{Stage}

record Bounds (c : Claims) (k m : ℕ) : Type 0 where
  ordered : k ≤ m
  below : (s : ℕ) → s < k → look c s ≡ None
  above : (s : ℕ) → m ≤ s → look c s ≡ None

or_none : (a : Option Claimed) → or_else a None ≡ a
or_none None = refl
or_none (Some q) = refl

record Middle (a b : Claims) (k m : ℕ) : Type 0 where
  middle : ℕ
  first : numbered a k ≡ Some middle
  others : numbered b middle ≡ Some m

parts : (a b : Claims) (k m : ℕ) → numbered (both a b) k ≡ Some m → Middle a b k m
parts a b k m h = go (numbered a k) refl h
  where
    go : (o : Option ℕ) → numbered a k ≡ o → then_numbered o (λ j. numbered b j) ≡ Some m → Middle a b k m
    go None e h = absurd cc
    go (Some j) e h = record { middle = j; first = e; others = h }

record IsOwn (slot k m : ℕ) : Type 0 where
  slot_is : slot ≡ k
  after : m ≡ k + 1

own : (slot : ℕ) (q : Claimed) (k m : ℕ) → numbered (claim slot q) k ≡ Some m → IsOwn slot k m
own slot q k m h = go (nat_eq slot k) refl h
  where
    go : (b : Bool) → nat_eq slot k ≡ b → cond b (Some (k + 1)) None ≡ Some m → IsOwn slot k m
    go true e h = record { slot_is = grind (arith, nat_tests, e); after = cc }
    go false e h = absurd cc

record IsToldAt (s : Scale) (e : Expr) (k m : ℕ) : Type 0 where
  holds : IsTrue (is_told_on s e)
  same : k ≡ m

told_at : (s : Scale) (e : Expr) (k m : ℕ) → numbered (told s e) k ≡ Some m → IsToldAt s e k m
told_at s e k m h = go (is_told_on s e) refl h
  where
    go : (b : Bool) → is_told_on s e ≡ b → cond b (Some k) None ≡ Some m → IsToldAt s e k m
    go true t g = record { holds = t; same = cc }
    go false t g = absurd cc

bounds : (c : Claims) (k m : ℕ) → numbered c k ≡ Some m → Bounds c k m
bounds no_claims k m h = let e : k ≡ m = cc in record { ordered = omega arith; below = λ s l. refl; above = λ s l. refl }
bounds (claim slot q) k m h =
    let o = own slot q k m h in
    let e = o.slot_is in
    let f = o.after in
    record {
      ordered = omega arith;
      below = λ s l. (let n : nat_eq slot s ≡ false = grind (arith, nat_tests, e, l) in rw n refl);
      above = λ s l. (let n : nat_eq slot s ≡ false = grind (arith, nat_tests, e, f, l) in rw n refl);
    }
bounds (told s e) k m h = let same = (told_at s e k m h).same in record { ordered = omega arith; below = λ s l. refl; above = λ s l. refl }
bounds (both a b) k m h =
    let p = parts a b k m h in
    let x = bounds a k p.middle p.first in
    let y = bounds b p.middle m p.others in
    let xo = x.ordered in
    let yo = y.ordered in
    record {
      ordered = omega arith;
      below = λ s l. rw (x.below s l, y.below s (omega arith)) refl;
      above = λ s l. rw (x.above s (omega arith), y.above s l) refl;
    }

within : (table c : Claims) (k m : ℕ) → numbered c k ≡ Some m → ((s : ℕ) → k ≤ s → s < m → look table s ≡ look c s) → AreClaimed table c
within table no_claims k m h same = tt
within table (claim slot q) k m h same =
    let o = own slot q k m h in
    let e = o.slot_is in
    let f = o.after in
    let t : nat_eq slot slot ≡ true = grind (arith, nat_tests) in
    same slot (omega arith) (omega arith) ∙ rw t refl
within table (told s e) k m h same = (told_at s e k m h).holds
within table (both a b) k m h same =
    let p = parts a b k m h in
    let x = bounds a k p.middle p.first in
    let y = bounds b p.middle m p.others in
    let xo = x.ordered in
    let yo = y.ordered in (
      within table a k p.middle p.first (λ s l u. same s l (omega arith) ∙ rw (y.below s u) (or_none (look a s))),
      within table b p.middle m p.others (λ s l u. same s (omega arith) u ∙ rw (x.above s l) refl),
    )

pub all_claimed : (c : Claims) (m : ℕ) → numbered c 0 ≡ Some m → AreClaimed c c
all_claimed c m h = within c c 0 m h (λ s l u. refl)

-- a part more, whose slots have the next numbers
pub numbered_push : {A B : Type 0} (f : A → With B) (parts_made : List A) (one : A) (k m n : ℕ) → numbered (all_claims (map f parts_made)) k ≡ Some m → numbered (f one).claims m ≡ Some n
    → numbered (all_claims (map f (parts_made ++ one ∷ []))) k ≡ Some n
numbered_push f [] one k m n h g = let e : k ≡ m = cc in rw (e, g) refl
numbered_push f (x ∷ xs) one k m n h g =
    let p = parts (f x).claims (all_claims (map f xs)) k m h in
    rw p.first (numbered_push f xs one p.middle m n p.others g)

-- a condition that is kept has the slot behind those in it
pub numbered_kept : (c : Claims) (s : Scale) (e : Expr) (k m : ℕ) → IsTrue (is_told_on s e) → numbered c k ≡ Some m → numbered (both c (both (told s e) (claim m (a_condition s e)))) k ≡ Some (m + 1)
numbered_kept c s e k m h n = let t : nat_eq m m ≡ true = grind (arith, nat_tests) in rw (n, h, t) refl

-- ---- Parts of a list

pub operand_claims : (es : List Condition) (i : ℕ) (d : Condition) → i < length es
    → all_claims (map condition_view (drop i es)) ≡ both (condition_view (get_or es i d)).claims (all_claims (map condition_view (drop (i + 1) es)))
operand_claims es i d lt = ap (λ (xs : List Condition). all_claims (map condition_view xs)) (drop_more es i d lt)

pub selection_claims : (ss : List Selection) (i : ℕ) (d : Selection) → i < length ss
    → all_claims (map selection_view (drop i ss)) ≡ both (selection_view (get_or ss i d)).claims (all_claims (map selection_view (drop (i + 1) ss)))
selection_claims ss i d lt = ap (λ (xs : List Selection). all_claims (map selection_view xs)) (drop_more ss i d lt)

pub stages_claims : (ss : List Stage) (i : ℕ) (d : Stage) → i < length ss
    → claims_of (drop i ss) ≡ both (stage_view (get_or ss i d)).claims (claims_of (drop (i + 1) ss))
stages_claims ss i d lt = ap (λ (xs : List Stage). claims_of xs) (drop_more ss i d lt)

pub ruleset parts_claimed = (operand_claims, selection_claims, stages_claims)
