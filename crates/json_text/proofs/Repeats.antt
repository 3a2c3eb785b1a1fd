-- Names that come again: step by step, and in order.
use Rattle.json_text.proofs.Names.{◌≡◌, ℕ, zero, suc, ◌+◌, ◌<◌, ◌≤◌, true, false, Bool, ◌||◌, List, [], ◌∷◌, length, map, drop, get_or, refl, sym, ap}
use Rattle.json_text.proofs.Names.{◌∙◌, subst, arith, list_any, AllByRecursion, length-drop, IsPermutation, IsSorted, nat_eq, bytes_decides}
use Rattle.json_text.proofs.Names.{nat_tests, is_same, repeats_by, repeats_next_by, repeats, or_parts}
use Rattle.std.specs.List.{IsDistinct}
use Rattle.std.specs.List.Sorted.{IsStrictlySortedBy}
use Rattle.std.specs.Ordering.{is_lt, eq_by_cmp}
use Rattle.std.specs.declared.cmp.Ordering.{Ordering}
use Rattle.std.specs.declared.cmp.Ordering.TheVariants.{Less}
use Rattle.std.proofs.lemmas.List.Sorted.{IsPermutation-sym, length_permutation}
use Rattle.std.proofs.lemmas.Map.Keys.{IsDistinct-head, IsDistinct-tail, IsDistinct-cons, IsDistinct-from_sorted, IsDistinct-IsPermutation, sorted_from_all_adjacent}
use Rattle.std.specs.Cmp.{IsTotalOrder}
use Rattle.json_text.specs.Repeats.{hashes_repeat}

-- one whose second part holds
pub or_right : (a b : Bool) → b ≡ true → (a || b) ≡ true
or_right a b e = grind arith

module _ {K : Type 0} (same : K → K → Bool) where
  pub next_over : (xs : List K) (i : ℕ) → length xs ≤ i + 1 → repeats_next_by same (drop i xs) ≡ false
  next_over xs i h = go (drop i xs) (let l = length-drop i xs in omega arith) where
    go : (ys : List K) → length ys ≤ 1 → repeats_next_by same ys ≡ false
    go (y ∷ z ∷ ys) l = absurd (omega arith)
    go _ l = refl

-- what is in order
module _ {K : Type 0} (same : K → K → Bool) (order : K → K → Ordering) (ties : (x y : K) → same x y ≡ eq_by_cmp order x y) (symm : (x y : K) → same x y ≡ same y x) (total : IsTotalOrder order) where
  abbrev tied : K → K → Bool
  tied x y = eq_by_cmp order x y

  same_turned : (x y : K) → tied x y ≡ same y x
  same_turned x y = sym (ties x y) ∙ symm x y

  tied_turned : (x y : K) → tied x y ≡ tied y x
  tied_turned x y = same_turned x y ∙ ties y x

  none_tied : (x : K) (xs : List K) → list_any (λ y. same y x) xs ≡ false → AllByRecursion (λ y. tied x y ≡ false) xs
  none_tied x [] h = tt
  none_tied x (y ∷ ys) h = let n = or_parts (same y x) (list_any (λ z. same z x) ys) h in (same_turned x y ∙ n.0, none_tied x ys n.1)

  none_same : (x : K) (xs : List K) → AllByRecursion (λ y. tied x y ≡ false) xs → list_any (λ y. same y x) xs ≡ false
  none_same x [] h = refl
  none_same x (y ∷ ys) h = let e = sym (same_turned x y) ∙ h.0 in rw e (none_same x ys h.1)

  distinct : (xs : List K) → repeats_by same xs ≡ false → IsDistinct tied xs
  unfolding IsDistinct
  distinct [] h = tt
  distinct (x ∷ xs) h = let n = or_parts (list_any (λ y. same y x) xs) (repeats_by same xs) h in IsDistinct-cons tied x xs (none_tied x xs n.0) (distinct xs n.1)

  no_repeats : (xs : List K) → IsDistinct tied xs → repeats_by same xs ≡ false
  no_repeats [] h = refl
  no_repeats (x ∷ xs) h = let e = none_same x xs (IsDistinct-head tied x xs h) in rw e (no_repeats xs (IsDistinct-tail tied x xs h))

  next_repeats : (xs : List K) → repeats_next_by same xs ≡ true → repeats_by same xs ≡ true
  next_repeats (x ∷ y ∷ ys) h = go (same x y) refl h (λ k. next_repeats (y ∷ ys) k) where
    go : (t : Bool) → same x y ≡ t → (t || repeats_next_by same (y ∷ ys)) ≡ true → (repeats_next_by same (y ∷ ys) ≡ true → repeats_by same (y ∷ ys) ≡ true) → repeats_by same (x ∷ y ∷ ys) ≡ true
    go t e k ih = grind (arith, or_right)
  next_repeats _ h = absurd (cc)

  apart : (xs : List K) (k : ℕ) (d : K) → repeats_next_by same xs ≡ false → suc k < length xs → same (get_or xs k d) (get_or xs (suc k) d) ≡ false
  apart (x ∷ y ∷ ys) zero d h l = (or_parts (same x y) (repeats_next_by same (y ∷ ys)) h).0
  apart (x ∷ y ∷ ys) (suc k) d h l = apart (y ∷ ys) k d (or_parts (same x y) (repeats_next_by same (y ∷ ys)) h).1 (omega arith)
  apart _ k d h l = absurd (omega arith)

  below : (a b : K) → is_lt (order b a) ≡ false → same a b ≡ false → order a b ≡ Less
  below a b h n = grind arith

  pub strict : (d : K) (xs : List K) → IsSorted order xs → repeats_next_by same xs ≡ false → IsStrictlySortedBy order xs
  strict d xs s h = sorted_from_all_adjacent total xs d (λ k l. below (get_or xs k d) (get_or xs (k + 1) d) (s k d (omega arith) l) (let e : suc k ≡ k + 1 = omega arith in subst (λ j. same (get_or xs k d) (get_or xs j d) ≡ false) e (apart xs k d h (omega arith))))

  -- where each one is less than the next, none comes again
  pub rising_alone : (xs ys : List K) → IsPermutation xs ys → IsStrictlySortedBy order ys → repeats_by same xs ≡ false
  rising_alone xs ys p s = no_repeats xs (IsDistinct-IsPermutation tied tied_turned ys xs (IsPermutation-sym xs ys p) (IsDistinct-from_sorted order ys s))

  -- in order, one that comes again comes right behind itself
  sorted_again : (d : K) (xs ys : List K) → IsPermutation xs ys → IsSorted order ys → repeats_next_by same ys ≡ repeats_by same xs
  sorted_again d xs ys p s = go (repeats_next_by same ys) refl where
    found : (t : Bool) → repeats_by same xs ≡ t → repeats_by same ys ≡ true → true ≡ t
    found true e h = refl
    found false e h = absurd (let n = no_repeats ys (IsDistinct-IsPermutation tied tied_turned xs ys p (distinct xs e)) in cc)

    go : (t : Bool) → repeats_next_by same ys ≡ t → t ≡ repeats_by same xs
    go true e = found (repeats_by same xs) refl (next_repeats ys e)
    go false e = sym (rising_alone xs ys p (strict d ys s e))

  -- a sorted list repeats where its neighbours do, without a value of their type at hand
  pub sorted_repeats : (xs ys : List K) → IsPermutation xs ys → IsSorted order ys → repeats_next_by same ys ≡ repeats_by same xs
  sorted_repeats [] ys p s = go ys (length_permutation [] ys p) where
    go : (ys : List K) → length ys ≡ 0 → repeats_next_by same ys ≡ false
    go [] e = refl
    go (y ∷ ys) e = absurd (omega arith)
  sorted_repeats (x ∷ xs) ys p s = sorted_again x (x ∷ xs) ys p s

-- names that mean the same have one hash
any_hash : (f : List ℕ → ℕ) (x : List ℕ) (xs : List (List ℕ)) → list_any (λ y. nat_eq y (f x)) (map f xs) ≡ false → list_any (λ y. is_same y x) xs ≡ false
any_hash f x [] h = refl
any_hash f x (y ∷ ys) h = let n = or_parts (nat_eq (f y) (f x)) (list_any (λ z. nat_eq z (f x)) (map f ys)) h in go (is_same y x) refl n.0 (any_hash f x ys n.1)
  where
    go : (t : Bool) → is_same y x ≡ t → nat_eq (f y) (f x) ≡ false → list_any (λ z. is_same z x) ys ≡ false → (t || list_any (λ z. is_same z x) ys) ≡ false
    go true e n m = let s : f y ≡ f x = ap f ((bytes_decides y x).0 e) in let t : nat_eq (f y) (f x) ≡ true = grind (arith, nat_tests) in absurd (cc)
    go false e n m = m

pub hashes_apart : (f : List ℕ → ℕ) (xs : List (List ℕ)) → hashes_repeat (map f xs) ≡ false → repeats xs ≡ false
hashes_apart f [] h = refl
hashes_apart f (x ∷ xs) h =
    let n = or_parts (list_any (λ y. nat_eq y (f x)) (map f xs)) (hashes_repeat (map f xs)) h in let a = any_hash f x xs n.0 in
    rw a (hashes_apart f xs n.1)
