-- The map of a key among those of all tenants.
use Rattle.std.proofs.Common.{◌≡◌, ◌≢◌, ◌⊎◌, inl, inr, ℕ, zero, suc, ◌<◌, ◌≤◌, ◌+◌, Bool, true, false, List, [], ◌∷◌, length, replicate, get_or, set, sym, ap, ◌∙◌, subst, refl, Option, Some, None, cond, arith}
use Rattle.std.specs.Prelude.{slice_get, option_and_then}
use Rattle.std.specs.List.{position_from}
use Rattle.std.proofs.lemmas.List.{get_or-set_same, get_or-set_other, length-set, set-get_or, get_or-replicate, length-replicate}
use Rattle.std.proofs.lemmas.Option.{slice_get-get_or, slice_get_within, slice_get_past, get_or_from_slice_get, slice_get_cases, same_Some}
use Rattle.std.proofs.lemmas.Map.Text.{is_eq-slice_cmp}
use Rattle.std.proofs.lemmas.Slice.Eq.{bytes_eq-Decides}
use Rattle.tenant_map.specs.Keyed.{at}
use Rattle.tenant_map.specs.Maps.{Map}
use Rattle.tenant_map.specs.Tenancy.{Tenancy, place_in, with_map}
use Rattle.request_replies.specs.Tenants.{map_of, with_map_of, put_at, fresh}

-- a key that passes the test of another is that key
at_same : (j k : List ℕ) → at j k ≡ true → j ≡ k
at_same j k h = (bytes_eq-Decides j k).0 (sym (is_eq-slice_cmp j k) ∙ h)

at_itself : (k : List ℕ) → at k k ≡ true
at_itself k = is_eq-slice_cmp k k ∙ (bytes_eq-Decides k k).1 refl

-- a place is not before the first one that is looked at
place_from : (k : List ℕ) (n i : ℕ) (keys : List (List ℕ)) → position_from (at k) n keys ≡ Some i → n < i + 1
place_from k n i [] h = absurd (cc)
place_from k n i (x ∷ keys) h =
    elim (at k x) as (λ b. cond b (Some n) (position_from (at k) (n + 1) keys) ≡ Some i → n < i + 1) [
      | true ↦ λ (e : Some n ≡ Some i). let s : n ≡ i = cc in omega (arith, s)
      | false ↦ λ e. let l = place_from k (n + 1) i keys e in omega (arith, l)
    ] h

-- keys at one place are the same
same_place : (j k : List ℕ) (n i : ℕ) (keys : List (List ℕ)) → position_from (at j) n keys ≡ Some i → position_from (at k) n keys ≡ Some i → j ≡ k
same_place j k n i [] g h = absurd (cc)
same_place j k n i (x ∷ keys) g h = by (at j x) (at k x) refl refl g h (same_place j k (n + 1) i keys)
  where
    by : (a b : Bool) → at j x ≡ a → at k x ≡ b → cond a (Some n) (position_from (at j) (n + 1) keys) ≡ Some i → cond b (Some n) (position_from (at k) (n + 1) keys) ≡ Some i
        → (position_from (at j) (n + 1) keys ≡ Some i → position_from (at k) (n + 1) keys ≡ Some i → j ≡ k) → j ≡ k
    by true true p q g h again = at_same j x p ∙ sym (at_same k x q)
    by true false p q g h again = let s : n ≡ i = same_Some n i g in let l = place_from k (n + 1) i keys h in absurd (omega (arith, s, l))
    by false true p q g h again = let s : n ≡ i = same_Some n i h in let l = place_from j (n + 1) i keys g in absurd (omega (arith, s, l))
    by false false p q g h again = again g h

-- a key that is there has a place
found_in : (key : List ℕ) (n k : ℕ) (keys : List (List ℕ)) → k < length keys → get_or keys k key ≡ key → (i : ℕ) × (position_from (at key) n keys ≡ Some i) × (i < n + length keys)
found_in key n k [] l e = absurd (omega (arith, l))
found_in key n zero (x ∷ keys) l e = (n, ap (λ b. cond b (Some n) (position_from (at key) (n + 1) keys)) (subst (λ (y : List ℕ). at key y ≡ true) (sym e) (at_itself key)), omega arith)
found_in key n (suc k) (x ∷ keys) l e = by (at key x) (found_in key (n + 1) k keys (omega (arith, l)) e)
  where
    by : (b : Bool) → ((i : ℕ) × (position_from (at key) (n + 1) keys ≡ Some i) × (i < (n + 1) + length keys)) → (i : ℕ) × (cond b (Some n) (position_from (at key) (n + 1) keys) ≡ Some i) × (i < n + suc (length keys))
    by true f = (n, refl, omega arith)
    by false f = (f.0, f.1, let l = f.2 in omega (arith, l))

abbrev map_at : List Map → Option ℕ → Option Map
map_at ms o = option_and_then (λ place. slice_get ms place) o

-- a map that is written is read there
read_back : (ms : List Map) (i : ℕ) (m : Map) → i < length ms → slice_get (set ms i m) i ≡ Some m
read_back ms i m l = slice_get-get_or (set ms i m) i [] (let e = length-set ms i m in omega (arith, e, l)) ∙ ap (λ x. Some x) (get_or-set_same ms i m [] l)

read_other : (ms : List Map) (i j : ℕ) (m : Map) → j ≢ i → slice_get (set ms i m) j ≡ slice_get ms j
read_other ms i j m n = by (slice_get_cases ms j).1
  where
    by : ((x : Map) × (j < length ms) × (slice_get ms j ≡ Some x) × (get_or ms j x ≡ x)) ⊎ ((length ms ≤ j) × (slice_get ms j ≡ None)) → slice_get (set ms i m) j ≡ slice_get ms j
    by (inl f) = let l = f.1 in slice_get-get_or (set ms i m) j [] (let e = length-set ms i m in omega (arith, e, l)) ∙ ap (λ x. Some x) (get_or-set_other ms i j m [] n) ∙ sym (slice_get-get_or ms j [] l)
    by (inr f) = let l = f.0 in slice_get_past (set ms i m) j (let e = length-set ms i m in omega (arith, e, l)) ∙ sym f.1

-- the map that was put is there, and no other changed
pub map_of-with_same : (k : List ℕ) (m old : Map) (t : Tenancy) → map_of k t ≡ Some old → map_of k (with_map_of k m t) ≡ Some m
map_of-with_same k m old t h = by (place_in t.keys k) refl h
  where
    by : (o : Option ℕ) → place_in t.keys k ≡ o → map_at t.maps o ≡ Some old → map_of k (put_at o m t) ≡ Some m
    by None e h = absurd (cc)
    by (Some i) e h = ap (map_at (set t.maps i m)) e ∙ read_back t.maps i m (slice_get_within t.maps i old h)

pub map_of-with_other : (j k : List ℕ) (m : Map) (t : Tenancy) → j ≢ k → map_of j (with_map_of k m t) ≡ map_of j t
map_of-with_other j k m t n = by (place_in t.keys k) refl
  where
    at_place : (i : ℕ) → place_in t.keys k ≡ Some i → (o : Option ℕ) → place_in t.keys j ≡ o → map_at (set t.maps i m) o ≡ map_at t.maps o
    at_place i e None f = refl
    at_place i e (Some x) f = read_other t.maps i x m (λ s. n (same_place j k 0 i t.keys (f ∙ ap (λ y. Some y) s) e))

    by : (o : Option ℕ) → place_in t.keys k ≡ o → map_of j (put_at o m t) ≡ map_of j t
    by None e = refl
    by (Some i) e = at_place i e (place_in t.keys j) refl

-- a map that is written over itself
pub with_map_at : (t : Tenancy) (i : ℕ) (m : Map) → slice_get t.maps i ≡ Some m → with_map t i m ≡ t
with_map_at t i m h =
    let e : set t.maps i m ≡ t.maps = ap (set t.maps i) (sym (get_or_from_slice_get t.maps i m m h)) ∙ set-get_or t.maps i m in
    ap (λ ms. record t { maps = ms }) e

pub with_map_same : (k : List ℕ) (m : Map) (t : Tenancy) → map_of k t ≡ Some m → with_map_of k m t ≡ t
with_map_same k m t h = by (place_in t.keys k) h
  where
    by : (o : Option ℕ) → map_at t.maps o ≡ Some m → put_at o m t ≡ t
    by None h = absurd (cc)
    by (Some i) h = with_map_at t i m h

-- each tenant begins with the empty map
pub map_of-fresh : (keys : List (List ℕ)) (key : List ℕ) (k : ℕ) → k < length keys → get_or keys k key ≡ key → map_of key (fresh keys) ≡ Some []
map_of-fresh keys key k l e =
    let f = found_in key 0 k keys l e in
    let inside : f.0 < length keys = let l = f.2 in omega (arith, l) in
    let none : Map = [] in
    ap (map_at (replicate (length keys) none)) f.1 ∙ slice_get-get_or (replicate (length keys) none) f.0 none (let s = length-replicate (length keys) none in omega (arith, s, inside)) ∙ ap (λ x. Some x) (get_or-replicate (length keys) f.0 none none inside)

pub map_at_place : (t : Tenancy) (k : List ℕ) (i : ℕ) (m : Map) → place_in t.keys k ≡ Some i → slice_get t.maps i ≡ Some m → map_of k t ≡ Some m
map_at_place t k i m p h = ap (map_at t.maps) p ∙ h

pub no_map_at : (t : Tenancy) (k : List ℕ) → place_in t.keys k ≡ None → map_of k t ≡ None
no_map_at t k p = ap (map_at t.maps) p
