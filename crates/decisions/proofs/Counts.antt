-- Places among values, by how many are below and how many at most.
use Rattle.std.proofs.Common.{◌≡◌, ℕ, ◌+◌, ◌<◌, ◌≤◌, zero, suc, Bool, true, false, cond, List, [], ◌∷◌, length, get_or, map, refl, sym, ap, ◌∙◌, arith}
use Rattle.std.specs.Cmp.{IsTotalOrder}
use Rattle.std.specs.List.{count_by}
use Rattle.std.specs.Ordering.{nat_cmp, is_lt, is_le, ordering_reverse}
use Rattle.std.specs.declared.cmp.Ordering.{Ordering}
use Rattle.std.specs.declared.cmp.Ordering.TheVariants.{Less, Equal, Greater}
use Rattle.std.proofs.lemmas.List.Sums.{sum_by-cons}
use Rattle.std.proofs.lemmas.Grind.{common_steps}
use Rattle.decisions.specs.Places.{place, HasTie}

-- ---- Counts

count_cons : {X : Type 0} (p : X → Bool) (x : X) (xs : List X) → count_by p (x ∷ xs) ≡ cond (p x) 1 0 + count_by p xs
count_cons p x xs = sum_by-cons (λ y. cond {A = ℕ} (p y) 1 0) x xs

count_none : {X : Type 0} (p : X → Bool) → count_by p [] ≡ 0
count_none p = refl

units_at_most : (a b : Bool) → (a ≡ true → b ≡ true) → cond a 1 0 ≤ cond b 1 0
units_at_most false b h = omega arith
units_at_most true true h = omega arith
units_at_most true false h = absurd (let e = h refl in cc)

units_below : (a b : Bool) → a ≡ false → b ≡ true → cond a 1 0 < cond b 1 0
units_below false true e f = omega arith
units_below false false e f = absurd (cc)
units_below true b e f = absurd (cc)

-- what passes p passes q
module _ {X : Type 0} (p q : X → Bool) (h : (x : X) → p x ≡ true → q x ≡ true) where
  count_at_most : (xs : List X) → count_by p xs ≤ count_by q xs
  count_at_most [] = omega (arith, count_none p, count_none q)
  count_at_most (x ∷ xs) = omega (arith, count_cons p x xs, count_cons q x xs, units_at_most (p x) (q x) (h x), count_at_most xs)

  -- and one element q alone
  count_below : (xs : List X) (k : ℕ) (d : X) → k < length xs → p (get_or xs k d) ≡ false → q (get_or xs k d) ≡ true → count_by p xs < count_by q xs
  count_below [] k d l e f = absurd (omega arith)
  count_below (x ∷ xs) zero d l e f = omega (arith, count_cons p x xs, count_cons q x xs, units_below (p x) (q x) e f, count_at_most xs)
  count_below (x ∷ xs) (suc k) d l e f = omega (arith, count_cons p x xs, count_cons q x xs, units_at_most (p x) (q x) (h x), count_below xs k d (omega arith) e f)

-- the first n pass, and no others
pub count_front : {X : Type 0} (p : X → Bool) (xs : List X) (n : ℕ) → n ≤ length xs → ((k : ℕ) (d : X) → k < n → p (get_or xs k d) ≡ true) → ((k : ℕ) (d : X) → n ≤ k → k < length xs → p (get_or xs k d) ≡ false) → count_by p xs ≡ n
count_front p [] n l all none = omega (arith, count_none p)
count_front p (x ∷ xs) zero l all none =
    let here : cond {A = ℕ} (p x) 1 0 ≡ 0 = ap (λ (b : Bool). cond {A = ℕ} b 1 0) (none 0 x (omega arith) (omega arith)) in
    let rest : count_by p xs ≡ 0 = count_front p xs zero (omega arith) (λ k d m. absurd (omega arith)) (λ k d m o. none (suc k) d (omega arith) (omega arith)) in
    omega (arith, count_cons p x xs)
count_front p (x ∷ xs) (suc n) l all none =
    let here : cond {A = ℕ} (p x) 1 0 ≡ 1 = ap (λ (b : Bool). cond {A = ℕ} b 1 0) (all 0 x (omega arith)) in
    let rest : count_by p xs ≡ n = count_front p xs n (omega arith) (λ k d m. all (suc k) d (omega arith)) (λ k d m o. none (suc k) d (omega arith) (omega arith)) in
    omega (arith, count_cons p x xs)

-- of the images
pub count_map : {X Y : Type 0} (f : X → Y) (p : Y → Bool) (xs : List X) → count_by p (map f xs) ≡ count_by (λ x. p (f x)) xs
count_map f p [] = refl
count_map f p (x ∷ xs) = count_cons p (f x) (map f xs) ∙ ap (λ n. cond (p (f x)) 1 0 + n) (count_map f p xs) ∙ sym (count_cons (λ y. p (f y)) x xs)

-- ---- Places

module _ {K : Type 0} (cmp : K → K → Ordering) where
  -- a value's place among one more
  pub place_with : (x : K) (xs : List K) (v : K) → place cmp (x ∷ xs) v ≡ place cmp xs v + place cmp (x ∷ []) v
  place_with x xs v =
      omega (
        arith,
        count_cons (λ y. is_lt (cmp y v)) x xs,
        count_cons (λ y. is_le (cmp y v)) x xs,
        count_cons (λ y. is_lt (cmp y v)) x [],
        count_cons (λ y. is_le (cmp y v)) x [],
        count_none (λ y. is_lt (cmp y v)),
        count_none (λ y. is_le (cmp y v)),
      )

  place_one : (x v : K) → place cmp (x ∷ []) v ≡ cond (is_lt (cmp x v)) 1 0 + cond (is_le (cmp x v)) 1 0
  place_one x v = omega (arith, count_cons (λ y. is_lt (cmp y v)) x [], count_cons (λ y. is_le (cmp y v)) x [], count_none (λ y. is_lt (cmp y v)), count_none (λ y. is_le (cmp y v)))

  -- and beside one alone
  pub place_beside : (x v : K) (o : Ordering) → cmp x v ≡ o → place cmp (x ∷ []) v ≡ cond (is_lt o) 1 0 + cond (is_le o) 1 0
  place_beside x v o e = place_one x v ∙ ap (λ p. cond {A = ℕ} (is_lt p) 1 0 + cond {A = ℕ} (is_le p) 1 0) e

nat_less : (a b : ℕ) → a < b → nat_cmp a b ≡ Less
nat_less a b h = grind (arith, common_steps)

nat_equal : (a b : ℕ) → a ≡ b → nat_cmp a b ≡ Equal
nat_equal a b h = grind (arith, common_steps)

nat_greater : (a b : ℕ) → b < a → nat_cmp a b ≡ Greater
nat_greater a b h = grind (arith, common_steps)

lt_is : (o : Ordering) → is_lt o ≡ true → o ≡ Less
lt_is Less e = refl
lt_is Equal e = absurd (cc)
lt_is Greater e = absurd (cc)

module _ {K : Type 0} (cmp : K → K → Ordering) (total : IsTotalOrder cmp) where
  reversed : (a b : K) (o : Ordering) → cmp a b ≡ o → cmp b a ≡ ordering_reverse o
  reversed a b o e = total.antisymm b a ∙ ap ordering_reverse e

  same_for_all : (a b x : K) → cmp a b ≡ Equal → cmp x a ≡ cmp x b
  same_for_all a b x e = total.antisymm x a ∙ ap ordering_reverse (total.congr a b x e) ∙ sym (total.antisymm x b)

  below_more : (a b x : K) → cmp a b ≡ Less → is_lt (cmp x a) ≡ true → is_lt (cmp x b) ≡ true
  below_more a b x e h = ap is_lt (total.trans x a b (lt_is (cmp x a) h) e)

  at_most_less : (a b x : K) (o : Ordering) → cmp a b ≡ Less → cmp x a ≡ o → is_le o ≡ true → is_lt (cmp x b) ≡ true
  at_most_less a b x Less e f h = ap is_lt (total.trans x a b f e)
  at_most_less a b x Equal e f h = ap is_lt (total.congr x a b f ∙ e)
  at_most_less a b x Greater e f h = absurd (cc)

  lt_le : (o : Ordering) → is_lt o ≡ true → is_le o ≡ true
  lt_le Less e = refl
  lt_le Equal e = refl
  lt_le Greater e = absurd (cc)

  at_most_more : (a b x : K) → cmp a b ≡ Less → is_le (cmp x a) ≡ true → is_le (cmp x b) ≡ true
  at_most_more a b x e h = lt_le (cmp x b) (at_most_less a b x (cmp x a) e refl h)

  tells : (xs : List K) (v l : K) (k : ℕ) → k < length xs → cmp (get_or xs k l) l ≡ Equal → (o : Ordering) → cmp v l ≡ o → nat_cmp (place cmp xs v) (place cmp xs l) ≡ o
  tells xs v l k m tie Less e =
      let some = count_at_most (λ x. is_lt (cmp x v)) (λ x. is_lt (cmp x l)) (λ x h. below_more v l x e h) xs in
      let more = count_below (λ x. is_le (cmp x v)) (λ x. is_le (cmp x l)) (λ x h. at_most_more v l x e h) xs k l m (ap is_le (total.congr (get_or xs k l) l v tie ∙ reversed v l Less e)) (ap is_le tie) in
      (let lt : place cmp xs v < place cmp xs l = omega arith in nat_less (place cmp xs v) (place cmp xs l) lt)
  tells xs v l k m tie Equal e =
      let same : place cmp xs v ≡ place cmp xs l =
      let a = count_at_most (λ x. is_lt (cmp x v)) (λ x. is_lt (cmp x l)) (λ x h. sym (ap is_lt (same_for_all v l x e)) ∙ h) xs in
      let b = count_at_most (λ x. is_lt (cmp x l)) (λ x. is_lt (cmp x v)) (λ x h. ap is_lt (same_for_all v l x e) ∙ h) xs in
      let c = count_at_most (λ x. is_le (cmp x v)) (λ x. is_le (cmp x l)) (λ x h. sym (ap is_le (same_for_all v l x e)) ∙ h) xs in
      let d = count_at_most (λ x. is_le (cmp x l)) (λ x. is_le (cmp x v)) (λ x h. ap is_le (same_for_all v l x e) ∙ h) xs in
      omega arith
      in nat_equal (place cmp xs v) (place cmp xs l) same
  tells xs v l k m tie Greater e =
      let back = reversed v l Greater e in
      let more = count_below (λ x. is_lt (cmp x l)) (λ x. is_lt (cmp x v)) (λ x h. below_more l v x back h) xs k l m (ap is_lt tie) (ap is_lt (total.congr (get_or xs k l) l v tie ∙ back)) in
      let some = count_at_most (λ x. is_le (cmp x l)) (λ x. is_le (cmp x v)) (λ x h. at_most_more l v x back h) xs in
      (let gt : place cmp xs l < place cmp xs v = omega arith in nat_greater (place cmp xs v) (place cmp xs l) gt)

  -- the place of a value compares with that of what ties with an element as the value does with it
  pub place_tells : (xs : List K) (v l : K) → HasTie cmp xs l → nat_cmp (place cmp xs v) (place cmp xs l) ≡ cmp v l
  place_tells xs v l c = tells xs v l c.0 c.1 c.2 (cmp v l) refl

  -- a lower value has no higher place
  pub place_more : (xs : List K) (v w : K) → cmp v w ≡ Less → place cmp xs v ≤ place cmp xs w
  place_more xs v w e =
      let a = count_at_most (λ x. is_lt (cmp x v)) (λ x. is_lt (cmp x w)) (λ x h. below_more v w x e h) xs in
      let b = count_at_most (λ x. is_le (cmp x v)) (λ x. is_le (cmp x w)) (λ x h. at_most_more v w x e h) xs in
      omega (arith, a, b)
