-- What bytes were found to do stays right as more is found.
use Rattle.json_text.proofs.Names.{◌≡◌, ℕ, ◌+◌, ◌-◌, ◌*◌, ◌<◌, ◌≤◌, List, [], ◌∷◌, ◌++◌, length, get_or, Option, Some, None, refl, sym, ap, ◌∙◌, subst, inl, inr, arith, cases_lt}
use Rattle.std.proofs.Common.{set, replicate, take}
use Rattle.std.proofs.lemmas.Bool.{cases_eq}
use Rattle.std.proofs.lemmas.List.{get_or_append_left, get_or-append_right, get_or-set_same, get_or-set_other, get_or_past, get_or-replicate, length-set, length-append, length-replicate, take_all}
use Rattle.json_text.specs.declared.tape.Shape.{Shape}
use Rattle.json_text.specs.declared.tape.Shape.TheVariants as shapes
use Rattle.text_faults.specs.declared.marks.Now.{Now}
use Rattle.text_faults.specs.declared.marks.Now.TheVariants.{Value}
use Rattle.text_faults.specs.declared.steps.Step.{Step}
use Rattle.text_faults.specs.declared.steps.Step.TheVariants.{Unknown, To, Into, Out}
use Rattle.text_faults.specs.Moves.{next}
use Rattle.text_faults.specs.Steps.{row_of, IsInside, move_of, IsRight, Keeps, AreSteps}

keeps_more : (nows : List Now) (x : Now) → Keeps nows (nows ++ x ∷ [])
keeps_more nows x = record { more = (let l = length-append nows (x ∷ []) in omega arith); same = λ n l. get_or_append_left nows (x ∷ []) Value n l }

inside_more : (a b : List Now) → Keeps a b → (s : Step) → IsInside a s → IsInside b s
inside_more a b k Unknown l = tt
inside_more a b k (To n) l = let m = k.more in omega arith
inside_more a b k (Into shape n) l = let m = k.more in omega arith
inside_more a b k (Out n) l = let m = k.more in omega arith

move_more : (a b : List Now) → Keeps a b → (s : Step) → IsInside a s → move_of b s ≡ move_of a s
move_more a b k Unknown l = refl
move_more a b k (To n) l = rw (k.same n l) refl
move_more a b k (Into shape n) l = rw (k.same n l) refl
move_more a b k (Out n) l = rw (k.same n l) refl

row_small : (o : Option Shape) → row_of o ≤ 512
row_small None = omega arith
row_small (Some shapes.Array) = omega arith
row_small (Some shapes.Object) = omega arith

same_place : (n n' b b' : ℕ) (o o' : Option Shape) → b < 256 → b' < 256 → n * 1024 + row_of o + b ≡ n' * 1024 + row_of o' + b' → (n ≡ n') × (o ≡ o') × (b ≡ b')
same_place n n' b b' None None l m e = (omega arith, refl, omega arith)
same_place n n' b b' None (Some shapes.Array) l m e = absurd (omega arith)
same_place n n' b b' None (Some shapes.Object) l m e = absurd (omega arith)
same_place n n' b b' (Some shapes.Array) None l m e = absurd (omega arith)
same_place n n' b b' (Some shapes.Array) (Some shapes.Array) l m e = (omega arith, refl, omega arith)
same_place n n' b b' (Some shapes.Array) (Some shapes.Object) l m e = absurd (omega arith)
same_place n n' b b' (Some shapes.Object) None l m e = absurd (omega arith)
same_place n n' b b' (Some shapes.Object) (Some shapes.Array) l m e = absurd (omega arith)
same_place n n' b b' (Some shapes.Object) (Some shapes.Object) l m e = (omega arith, refl, omega arith)

unknown : (m i : ℕ) → get_or (replicate m Unknown) i Unknown ≡ Unknown
unknown m i = elim (cases_lt i m) [ inl p ↦ get_or-replicate m i Unknown Unknown p | inr p ↦ get_or_past (replicate m Unknown) i Unknown (let l = length-replicate m Unknown in omega arith) ]

module _ (nows : List Now) (steps : List Step) (a : AreSteps nows steps) where
  -- a step that was found before
  pub known : (n byte r : ℕ) (o : Option Shape) (s : Step) → n < length nows → byte < 256 → r ≡ row_of o → s ≡ get_or steps (n * 1024 + r + byte) Unknown → (s ≡ Unknown → ⊥) → IsInside nows s × (move_of nows s ≡ next (get_or nows n Value) o byte)
  known n byte r o s l m q e k = subst (λ x. IsRight nows x (next (get_or nows n Value) o byte)) (sym (e ∙ ap (λ k. get_or steps (n * 1024 + k + byte) Unknown) q)) (a.right n byte o l m) k

  inside : (n byte : ℕ) (o : Option Shape) → n < length nows → byte < 256 → n * 1024 + row_of o + byte < length steps
  inside n byte o l m = let r = row_small o in let e = a.long in omega arith

  -- one step more
  kept : (n byte : ℕ) (o : Option Shape) (s : Step) → n < length nows → byte < 256 → IsInside nows s → move_of nows s ≡ next (get_or nows n Value) o byte → AreSteps nows (set steps (n * 1024 + row_of o + byte) s)
  kept n byte o s l m i e = record {
    long = length-set steps (n * 1024 + row_of o + byte) s ∙ a.long;
    right = λ n' b' o' l' m'. elim (cases_eq (n' * 1024 + row_of o' + b') (n * 1024 + row_of o + byte)) [
      | inl f ↦ (let p = same_place n' n b' byte o' o m' m f in
          let here : get_or (set steps (n * 1024 + row_of o + byte) s) (n' * 1024 + row_of o' + b') Unknown ≡ s = (ap (λ k. get_or (set steps (n * 1024 + row_of o + byte) s) k Unknown) f ∙ get_or-set_same steps (n * 1024 + row_of o + byte) s Unknown (inside n byte o l m)) in
          let by : next (get_or nows n Value) o byte ≡ next (get_or nows n' Value) o' b' = rw (p.0, p.1, p.2) refl in
          subst (λ x. IsRight nows x (next (get_or nows n' Value) o' b')) (sym here) (λ k. (i, e ∙ by)))
      | inr f ↦ subst (λ x. IsRight nows x (next (get_or nows n' Value) o' b')) (sym (get_or-set_other steps (n * 1024 + row_of o + byte) (n' * 1024 + row_of o' + b') s Unknown f)) (a.right n' b' o' l' m')
    ];
  }

  -- one state more, of which nothing is known
  added : (x : Now) (fill : List Step) → length fill ≡ 1024 → ((i : ℕ) → get_or fill i Unknown ≡ Unknown) → AreSteps (nows ++ x ∷ []) (steps ++ fill)
  added x fill long empty = record {
    long = (let p = length-append nows (x ∷ []) in let q = length-append steps fill in let e = a.long in omega arith);
    right = λ n byte o l m. elim (cases_lt n (length nows)) [
      | inl p ↦ (let same = get_or_append_left steps fill Unknown (n * 1024 + row_of o + byte) (inside n byte o p m) in let k = keeps_more nows x in
          subst (λ y. IsRight (nows ++ x ∷ []) y (next (get_or (nows ++ x ∷ []) n Value) o byte)) (sym same)
          (λ f. (let r = a.right n byte o p m f in let s = get_or steps (n * 1024 + row_of o + byte) Unknown in
          (inside_more nows (nows ++ x ∷ []) k s r.0, move_more nows (nows ++ x ∷ []) k s r.0 ∙ r.1 ∙ ap (λ y. next y o byte) (sym (k.same n p))))))
      | inr p ↦ (λ f. absurd (f (let e = a.long in get_or-append_right steps fill (length steps) (n * 1024 + row_of o + byte) Unknown refl (omega arith) ∙ empty (n * 1024 + row_of o + byte - length steps))))
    ];
  }

  pub grown : (x : Now) (nows' : List Now) (steps' : List Step) (k m : ℕ) → nows' ≡ nows ++ x ∷ [] → steps' ≡ take k steps ++ replicate m Unknown → length steps ≤ k → m ≡ 1024 → AreSteps nows' steps' × Keeps nows nows'
  grown x nows' steps' k m p q l e =
      subst (λ v. AreSteps v steps' × Keeps nows v) (sym p) (
        subst (λ v. AreSteps (nows ++ x ∷ []) v) (sym (q ∙ ap (λ v. v ++ replicate m Unknown) (take_all k steps l))) (added x (replicate m Unknown) (length-replicate m Unknown ∙ e) (unknown m)),
        keeps_more nows x,
      )

-- a step that was found now
pub learnt : (nows nows' : List Now) (steps' : List Step) → AreSteps nows' steps' → Keeps nows nows' → (n byte r : ℕ) (o : Option Shape) (s : Step) → n < length nows → byte < 256 → r ≡ row_of o → IsInside nows' s
    → move_of nows' s ≡ next (get_or nows n Value) o byte → AreSteps nows' (set steps' (n * 1024 + r + byte) s) × Keeps nows nows'
learnt nows nows' steps' a k n byte r o s l m q i e = (
  subst (λ v. AreSteps nows' (set steps' (n * 1024 + v + byte) s)) (sym q) (kept nows' steps' a n byte o s (let g = k.more in omega arith) m i (e ∙ ap (λ y. next y o byte) (sym (k.same n l)))),
  k,
)
