-- Places of keys.
use Rattle.std.specs.Option.{is_some}
use Rattle.std.proofs.lemmas.List.{take-append-drop, take_more, length-take}
use Rattle.std.proofs.Common.{◌≡◌, ℕ, ◌+◌, ◌<◌, List, [], ◌∷◌, ◌++◌, length, take, drop, get_or, append_assoc, Bool, true, false, cond, ◌||◌, Option, Some, None, refl, sym, ap, ◌∙◌, arith}
use Rattle.std.specs.List.{list_any, position_from}
use Rattle.tenant_map.specs.Keyed.{at}
use Rattle.tenant_map.specs.Tenancy.{place_in, has_repeated}
use Rattle.tenant_map.proofs.Ordered.{at_symm, at_congr}

-- what is found in a front, or after it
abbrev or_else : {A : Type 0} → Option A → Option A → Option A
or_else None o = o
or_else (Some x) o = Some x

place-push : (q k : List ℕ) (i n : ℕ) (ks : List (List ℕ)) → n ≡ i + length ks → position_from (at q) i (ks ++ k ∷ []) ≡ or_else (position_from (at q) i ks) (cond (at q k) (Some n) None)
place-push q k i n [] e = let h : n ≡ i = omega (arith, e) in ap (λ m. cond (at q k) (Some m) None) (sym h)
place-push q k i n (x ∷ ks) e =
    let h = place-push q k (i + 1) n ks (omega (arith, e)) in
    elim (at q x) as (λ b. cond b (Some i) (position_from (at q) (i + 1) (ks ++ k ∷ [])) ≡ or_else (cond b (Some i) (position_from (at q) (i + 1) ks)) (cond (at q k) (Some n) None))
    [ true ↦ refl | false ↦ h ]

-- a key that is like another stands where that does
place_like : (q k : List ℕ) (i : ℕ) (ks : List (List ℕ)) → at q k ≡ true → position_from (at q) i ks ≡ position_from (at k) i ks
place_like q k i [] h = refl
place_like q k i (x ∷ ks) h = ap (λ b. cond b (Some i) (position_from (at q) (i + 1) ks)) (at_congr q k x h) ∙ ap (cond (at k x) (Some i)) (place_like q k (i + 1) ks h)

-- the places with one more key, which has no place before
pub place_more : (q k : List ℕ) (n : ℕ) (ks : List (List ℕ)) (f g : Option ℕ) → n ≡ length ks → place_in ks k ≡ None → f ≡ place_in ks q → g ≡ cond (at k q) (Some n) f → g ≡ place_in (ks ++ k ∷ []) q
place_more q k n ks f g e none old new =
    new ∙ ap (λ b. cond b (Some n) f) (at_symm k q) ∙ by (at q k) refl ∙ sym (place-push q k 0 n ks (omega (arith, e)))
  where
    by : (b : Bool) → at q k ≡ b → cond b (Some n) f ≡ or_else (position_from (at q) 0 ks) (cond (at q k) (Some n) None)
    by true h = ap (λ b. cond b (Some n) None) (sym h) ∙ sym (ap (λ o. or_else o (cond (at q k) (Some n) None)) (place_like q k 0 ks h ∙ none))
    by false h = old ∙ sym (ap (λ b. or_else (position_from (at q) 0 ks) (cond b (Some n) None)) h ∙ or_none (position_from (at q) 0 ks))
      where
        or_none : (o : Option ℕ) → or_else o None ≡ o
        or_none None = refl
        or_none (Some x) = refl

-- a key has a place where it is among the keys
place_any : (k : List ℕ) (i : ℕ) (ks : List (List ℕ)) → position_from (at k) i ks ≡ None → list_any (at k) ks ≡ false
place_any k i [] h = refl
place_any k i (x ∷ ks) h =
    elim (at k x) as (λ b. cond b (Some i) (position_from (at k) (i + 1) ks) ≡ None → (b || list_any (at k) ks) ≡ false)
    [ true ↦ λ (e : Some i ≡ None). absurd (cc) | false ↦ λ e. place_any k (i + 1) ks e ] h

any_place : (k : List ℕ) (i n : ℕ) (ks : List (List ℕ)) → position_from (at k) i ks ≡ Some n → list_any (at k) ks ≡ true
any_place k i n [] h = absurd (cc)
any_place k i n (x ∷ ks) h =
    elim (at k x) as (λ b. cond b (Some i) (position_from (at k) (i + 1) ks) ≡ Some n → (b || list_any (at k) ks) ≡ true)
    [ true ↦ λ e. refl | false ↦ λ e. any_place k (i + 1) n ks e ] h

any-append : (p : List ℕ → Bool) (xs ys : List (List ℕ)) → list_any p (xs ++ ys) ≡ (list_any p xs || list_any p ys)
any-append p [] ys = refl
any-append p (x ∷ xs) ys = elim (p x) as (λ b. (b || list_any p (xs ++ ys)) ≡ ((b || list_any p xs) || list_any p ys)) [ true ↦ refl | false ↦ any-append p xs ys ]

or_true : (b : Bool) → (b || true) ≡ true
or_true true = refl
or_true false = refl

-- a key that is among those before it is repeated
repeated_by : (k : List ℕ) (xs ys : List (List ℕ)) → list_any (at k) xs ≡ true → has_repeated (xs ++ k ∷ ys) ≡ true
repeated_by k [] ys h = absurd (cc)
repeated_by k (x ∷ xs) ys h = by (at k x) refl h (λ i. repeated_by k xs ys i)
  where
    by : (b : Bool) → at k x ≡ b → (b || list_any (at k) xs) ≡ true → (list_any (at k) xs ≡ true → has_repeated (xs ++ k ∷ ys) ≡ true) → (list_any (at x) (xs ++ k ∷ ys) || has_repeated (xs ++ k ∷ ys)) ≡ true
    by true e i f = ap (λ b. b || has_repeated (xs ++ k ∷ ys)) (any-append (at x) xs (k ∷ ys) ∙ ap (λ b. list_any (at x) xs || (b || list_any (at x) ys)) (at_symm x k ∙ e) ∙ or_true (list_any (at x) xs))
    by false e i f = ap (λ b. list_any (at x) (xs ++ k ∷ ys) || b) (f i) ∙ or_true _

pub repeated_at : (k : List ℕ) (n : ℕ) (xs ys : List (List ℕ)) → Some n ≡ place_in xs k → has_repeated (xs ++ k ∷ ys) ≡ true
repeated_at k n xs ys h = repeated_by k xs ys (any_place k 0 n xs (sym h))

-- and one that is not among them is not
distinct_by : (k : List ℕ) (xs : List (List ℕ)) → list_any (at k) xs ≡ false → has_repeated xs ≡ false → has_repeated (xs ++ k ∷ []) ≡ false
distinct_by k [] h d = refl
distinct_by k (x ∷ xs) h d = by (at k x) (list_any (at k) xs) (list_any (at x) xs) (has_repeated xs) refl refl refl h d (λ i j. distinct_by k xs i j)
  where
    by : (a b m r : Bool) → at k x ≡ a → list_any (at k) xs ≡ b → list_any (at x) xs ≡ m → (a || b) ≡ false → (m || r) ≡ false → (b ≡ false → r ≡ false → has_repeated (xs ++ k ∷ []) ≡ false) → (list_any (at x) (xs ++ k ∷ []) || has_repeated (xs ++ k ∷ [])) ≡ false
    by true b m r p q s h d f = absurd (cc)
    by false true m r p q s h d f = absurd (cc)
    by false false true r p q s h d f = absurd (cc)
    by false false false true p q s h d f = absurd (cc)
    by false false false false p q s h d f =
        ap (λ b. b || has_repeated (xs ++ k ∷ [])) (any-append (at x) xs (k ∷ []) ∙ ap (λ b. b || (at x k || false)) s ∙ ap (λ b. b || false) (at_symm x k ∙ p)) ∙ f refl refl

pub distinct_more : (k : List ℕ) (xs : List (List ℕ)) → place_in xs k ≡ None → has_repeated xs ≡ false → has_repeated (xs ++ k ∷ []) ≡ false
distinct_more k xs h d = distinct_by k xs (place_any k 0 xs h) d

pub place_inside : (q : List ℕ) (i n : ℕ) (ks : List (List ℕ)) → position_from (at q) i ks ≡ Some n → n < i + length ks
place_inside q i n [] h = absurd (cc)
place_inside q i n (x ∷ ks) h =
    elim (at q x) as (λ b. cond b (Some i) (position_from (at q) (i + 1) ks) ≡ Some n → n < i + length (x ∷ ks))
    [ true ↦ λ (e : Some i ≡ Some n). let p : i ≡ n = cc in omega (arith, p) | false ↦ λ e. let p = place_inside q (i + 1) n ks e in omega (arith, p) ] h

none_by : (o : Option ℕ) → is_some o ≡ false → o ≡ None
none_by None h = refl
none_by (Some n) h = absurd (cc)

-- a key that has a place among those before it
pub repeated_found : (ks : List (List ℕ)) (i : ℕ) (o : Option ℕ) → i < length ks → o ≡ place_in (take i ks) (get_or ks i []) → is_some o ≡ true → has_repeated ks ≡ true
repeated_found ks i None l h s = absurd (cc)
repeated_found ks i (Some n) l h s =
    ap has_repeated (sym (take-append-drop (i + 1) ks) ∙ ap (λ f. f ++ drop (i + 1) ks) (take_more ks i [] l) ∙ append_assoc (take i ks) (get_or ks i [] ∷ []) (drop (i + 1) ks))
    ∙ repeated_at (get_or ks i []) n (take i ks) (drop (i + 1) ks) h

pub place_next : (ks : List (List ℕ)) (i : ℕ) (o f g : Option ℕ) (q : List ℕ) → i < length ks → o ≡ place_in (take i ks) (get_or ks i []) → is_some o ≡ false → f ≡ place_in (take i ks) q → g ≡ cond (at (get_or ks i []) q) (Some i) f
    → g ≡ place_in (take (i + 1) ks) q
place_next ks i o f g q l h s old new =
    let n : i ≡ length (take i ks) = omega (arith, length-take i ks) in
    place_more q (get_or ks i []) i (take i ks) f g n (sym h ∙ none_by o s) old new ∙ ap (λ t. place_in t q) (sym (take_more ks i [] l))

pub distinct_next : (ks : List (List ℕ)) (i : ℕ) (o : Option ℕ) → i < length ks → o ≡ place_in (take i ks) (get_or ks i []) → is_some o ≡ false → has_repeated (take i ks) ≡ false → has_repeated (take (i + 1) ks) ≡ false
distinct_next ks i o l h s d = ap has_repeated (take_more ks i [] l) ∙ distinct_more (get_or ks i []) (take i ks) (sym h ∙ none_by o s) d
