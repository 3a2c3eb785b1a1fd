-- The number of a name, how many of the marks so far each group has, and that marks that come again stay.
use Rattle.json_text.proofs.Names.{◌≡◌, ℕ, ◌+◌, ◌<◌, ◌≤◌, inl, inr, List, [], ◌∷◌, ◌++◌, length, get_or, get_or_past, refl, sym, ap, ◌∙◌, subst, arith, nat_tests, cases_lt}
use Rattle.std.proofs.Common.{set}
use Rattle.std.proofs.lemmas.List.{get_or-set_same, get_or-set_other}
use Rattle.std.proofs.lemmas.Bool.{cases_eq}
use Rattle.text_places.specs.Marks.{group_of, number_from, with_byte, one_more, AreCounted, KeepsShared}

pub number_over : (n : ℕ) (a b : List ℕ) → number_from n (a ++ b) ≡ number_from (number_from n a) b
number_over n [] b = refl
number_over n (x ∷ a) b = number_over (with_byte n x) a b

pub one_more_some : (n : ℕ) → 0 < one_more n
one_more_some n = grind (arith, nat_tests)

pub one_more_two : (n : ℕ) → 0 < n → one_more n ≡ 2
one_more_two n l = grind (arith, nat_tests)

pub inside : (xs : List ℕ) (i : ℕ) → 0 < get_or xs i 0 → i < length xs
inside xs i p = elim (cases_lt i (length xs)) [ inl l ↦ l | inr l ↦ absurd (let e = get_or_past xs i 0 l in omega arith) ]

module _ (factor : ℕ) (marks : List ℕ) where
  pub none_counted : (counts : List ℕ) → AreCounted factor marks counts 0
  none_counted counts = record { some = λ i l. absurd (omega arith); shared = λ i j d l. absurd (omega arith) }

  module _ (counts : List ℕ) (n : ℕ) (old : AreCounted factor marks counts n) where
    last_zero : get_or marks n 0 ≡ 0 → (i : ℕ) → n ≤ i → i < n + 1 → 0 < get_or marks i 0 → ⊥
    last_zero z i l m p = let e : i ≡ n = omega arith in let f = ap (λ k. get_or marks k 0) e in omega arith

    pub zero_counted : get_or marks n 0 ≡ 0 → AreCounted factor marks counts (n + 1)
    zero_counted z = record {
      some = λ i l p. elim (cases_lt i n) [ inl q ↦ old.some i q p | inr q ↦ absurd (last_zero z i q l p) ];
      shared = λ i j d l m p s. elim (cases_lt i n) [
        | inl q ↦ elim (cases_lt j n) [ inl r ↦ old.shared i j d q r p s | inr r ↦ absurd (last_zero z j r m (subst (λ k. 0 < k) s p)) ]
        | inr q ↦ absurd (last_zero z i q l p)
      ];
    }

    module _ (group count : ℕ) (is : group ≡ group_of factor (get_or marks n 0)) (room : group < length counts) (some : 0 < count) (two : 0 < get_or counts group 0 → count ≡ 2) where
      at_group : get_or (set counts group count) group 0 ≡ count
      at_group = get_or-set_same counts group count 0 room

      last_group : (i : ℕ) → n ≤ i → i < n + 1 → group_of factor (get_or marks i 0) ≡ group
      last_group i l m = let e : i ≡ n = omega arith in ap (λ k. group_of factor (get_or marks k 0)) e ∙ sym is

      has_two : (g : ℕ) → g ≡ group → 0 < get_or counts g 0 → get_or (set counts group count) g 0 ≡ 2
      has_two g e p = ap (λ k. get_or (set counts group count) k 0) e ∙ at_group ∙ two (subst (λ k. 0 < get_or counts k 0) e p)

      same_group : (i j : ℕ) → get_or marks i 0 ≡ get_or marks j 0 → group_of factor (get_or marks i 0) ≡ group_of factor (get_or marks j 0)
      same_group i j s = ap (group_of factor) s

      pub mark_counted : AreCounted factor marks (set counts group count) (n + 1)
      mark_counted = record {
        some = λ i l p. elim (cases_eq (group_of factor (get_or marks i 0)) group) [
          | inl f ↦ subst (λ k. 0 < get_or (set counts group count) k 0) (sym f) (subst (λ k. 0 < k) (sym at_group) some)
          | inr f ↦ elim (cases_lt i n) [
            | inl q ↦ subst (λ k. 0 < k) (sym (get_or-set_other counts group (group_of factor (get_or marks i 0)) count 0 f)) (old.some i q p)
            | inr q ↦ absurd (f (last_group i q l))
          ]
        ];
        shared = λ i j d l m p s. elim (cases_lt i n) [
          | inl q ↦ elim (cases_lt j n) [
            | inl r ↦ (let before = old.shared i j d q r p s in elim (cases_eq (group_of factor (get_or marks i 0)) group) [
              | inl f ↦ has_two (group_of factor (get_or marks i 0)) f (omega (arith, before))
              | inr f ↦ get_or-set_other counts group (group_of factor (get_or marks i 0)) count 0 f ∙ before
            ])
            | inr r ↦ has_two (group_of factor (get_or marks i 0)) (same_group i j s ∙ last_group j r m) (old.some i q p)
          ]
          | inr q ↦ elim (cases_lt j n) [
            | inl r ↦ has_two (group_of factor (get_or marks i 0)) (last_group i q l) (subst (λ k. 0 < get_or counts k 0) (sym (same_group i j s)) (old.some j r (subst (λ k. 0 < k) s p)))
            | inr r ↦ absurd (d (omega arith))
          ]
        ];
      }

  pub all_kept : KeepsShared marks marks
  all_kept i j d p s = refl

  -- one that has no other in its group
  pub one_less : (counts new : List ℕ) → AreCounted factor marks counts (length marks) → KeepsShared marks new → (n : ℕ) → (get_or counts (group_of factor (get_or new n 0)) 0 ≡ 2 → ⊥) → KeepsShared marks (set new n 0)
  one_less counts new c k n apart i j d p s = elim (cases_eq i n) [
    | inl e ↦ absurd (apart (ap (λ m. get_or counts (group_of factor m) 0) (sym (ap (λ m. get_or new m 0) e) ∙ k i j d p s) ∙ c.shared i j d (inside marks i p) (inside marks j (subst (λ m. 0 < m) s p)) p s))
    | inr e ↦ get_or-set_other new n i 0 0 e ∙ k i j d p s
  ]

pub kept_again : (a b c : List ℕ) → KeepsShared a b → KeepsShared b c → KeepsShared a c
kept_again a b c k l i j d p s = let f = k i j d p s in
    l i j d (subst (λ n. 0 < n) (sym f) p) (f ∙ s ∙ sym (k j i (λ e. d (sym e)) (subst (λ n. 0 < n) s p) (sym s))) ∙ f
