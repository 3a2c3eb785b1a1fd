-- Literals in order, and where a test of them turns.
use Rattle.std.proofs.Common.{◌≡◌, ℕ, zero, suc, ◌+◌, ◌-◌, ◌<◌, ◌≤◌, Bool, true, false, List, length, get_or, map, Option, Some, refl, sym, ap, subst, ◌∙◌, arith}
use denote.Ref.{Bor}
use denote.Param.Members.{Mut}
use Rattle.std.specs.Cmp.{IsTotalOrder, IsStrictWeakOrder}
use Rattle.std.specs.Fn.{Called, ComparesAs}
use Rattle.std.specs.List.{All, Contains, count_by}
use Rattle.std.specs.List.Sorted.{IsPermutation, IsSortedBy, IsSortedByKey, IsPartitionedBy, IsPartitionPoint}
use Rattle.std.specs.Ordering.{is_lt, is_le, ordering_reverse}
use Rattle.std.specs.declared.cmp.Ordering.{Ordering}
use Rattle.std.specs.declared.cmp.Ordering.TheVariants.{Less, Equal, Greater}
use Rattle.std.proofs.lemmas.Fn.{always_returns_same}
use Rattle.std.proofs.lemmas.List.{get_or-map, length-map}
use Rattle.std.proofs.lemmas.List.Elements.{All-weaker, All-contains_itself}
use Rattle.std.proofs.lemmas.List.Sorted.{ranks_by, Contains-permutation, IsPermutation-map}
use Rattle.std.proofs.lemmas.Cmp.{tied_itself}
use Rattle.std.proofs.lemmas.Simd.{map-map}
use Rattle.decimal_order.specs.Order.{number_cmp}
use Rattle.path_grammar.specs.Tree.{Literal}
use Rattle.path_meaning.specs.Comparison.{Value, literal_value}
use Rattle.decisions.specs.Order.{value_cmp}
use Rattle.decisions.specs.Places.{place}
use Rattle.decisions.specs.Views.{constant_view, constant_value}
use Rattle.decisions.specs.declared.test.Constant.{Constant}
use Rattle.decisions.proofs.Counts.{count_front, count_map}
use Rattle.decisions.proofs.Orders.{value_total}

-- ---- What is at most another

module _ {K : Type 0} (cmp : K → K → Ordering) (total : IsTotalOrder cmp) where
  below_from : (a b v : K) (o : Ordering) → cmp b a ≡ o → is_lt o ≡ false → is_lt (cmp b v) ≡ true → is_lt (cmp a v) ≡ true
  below_from a b v Less e n h = absurd (cc)
  below_from a b v Equal e n h = ap is_lt (sym (total.congr b a v e)) ∙ h
  below_from a b v Greater e n h = ap is_lt (total.trans a b v (total.antisymm a b ∙ ap ordering_reverse e) (less (cmp b v) h))
    where
      less : (p : Ordering) → is_lt p ≡ true → p ≡ Less
      less Less k = refl
      less Equal k = absurd (cc)
      less Greater k = absurd (cc)

  at_most_from : (a b v : K) (o p : Ordering) → cmp b a ≡ o → is_lt o ≡ false → cmp b v ≡ p → is_le p ≡ true → is_le (cmp a v) ≡ true
  at_most_from a b v Less p e n f h = absurd (cc)
  at_most_from a b v Equal p e n f h = ap is_le (sym (total.congr b a v e) ∙ f) ∙ h
  at_most_from a b v Greater Less e n f h = ap is_le (total.trans a b v (total.antisymm a b ∙ ap ordering_reverse e) f)
  at_most_from a b v Greater Equal e n f h = ap is_le (total.antisymm a v ∙ ap ordering_reverse (sym (total.congr b v a f) ∙ e))
  at_most_from a b v Greater Greater e n f h = absurd (cc)

-- ---- Sorted

module _ (n : IsTotalOrder number_cmp) where
  pub sorted_by : {F : Type 0} {g : Mut F (Bor Constant × (Bor Constant × Unit {0})) Ordering} {f : F} (xs : List Constant)
      → ((lt : Constant → Constant → Bool) → IsStrictWeakOrder lt → ComparesAs g lt f → IsSortedBy lt xs)
      → ((a : Bor Constant × (Bor Constant × Unit {0})) (r : Ordering) (f' : F) → Called g f a r f' → (r ≡ value_cmp (constant_value a.0.now) (constant_value a.1.0.now)) × (f' ≡ f)) → IsSortedByKey constant_value value_cmp xs
  sorted_by {g = g} {f = f} xs up h = up (λ x y. is_lt (value_cmp (constant_value x) (constant_value y))) (ranks_by (value_total n) constant_value)
      (always_returns_same g (λ a r. is_lt r ≡ is_lt (value_cmp (constant_value a.0.now) (constant_value a.1.0.now))) f (λ a r f' k. (ap is_lt (h a r f' k).0, (h a r f' k).1)))

  module _ (xs : List Constant) (sorted : IsSortedByKey constant_value value_cmp xs) (v : Option Value) where
    far : (i m : ℕ) (d : Constant) → i + m < length xs → is_lt (value_cmp (constant_value (get_or xs (i + m) d)) (constant_value (get_or xs i d))) ≡ false
    far i zero d h = let e : i + zero ≡ i = omega arith in rw e (ap is_lt (tied_itself (value_total n) (constant_value (get_or xs i d))))
    far i (suc m) d h =
        let e : i + suc m ≡ i + m + 1 = omega arith in
        rw e ((ranks_by (value_total n) constant_value).chain (get_or xs (i + m + 1) d) (get_or xs (i + m) d) (get_or xs i d) (sorted (i + m) d (omega arith) (omega arith)) (far i m d (omega arith)))

    rises : (i j : ℕ) (d : Constant) → i ≤ j → j < length xs → is_lt (value_cmp (constant_value (get_or xs j d)) (constant_value (get_or xs i d))) ≡ false
    rises i j d a b = let e : j ≡ i + (j - i) = omega arith in rw e (far i (j - i) d (omega arith))

    pub parted_below : IsPartitionedBy (λ x. is_lt (value_cmp (constant_value x) v)) xs
    parted_below i j d a b h = below_from value_cmp (value_total n) (constant_value (get_or xs i d)) (constant_value (get_or xs j d)) v _ refl (rises i j d a b) h

    pub parted_most : IsPartitionedBy (λ x. is_le (value_cmp (constant_value x) v)) xs
    parted_most i j d a b h = at_most_from value_cmp (value_total n) (constant_value (get_or xs i d)) (constant_value (get_or xs j d)) v _ _ refl (rises i j d a b) refl h

counted : {X : Type 0} (p : X → Bool) (xs : List X) (i : ℕ) → i ≤ length xs → IsPartitionPoint (λ y. p y ≡ true) (λ y. p y ≡ false) xs i → count_by p xs ≡ i
counted p xs i l h = count_front p xs i l (λ k d m. h.0 k d (omega arith) m) (λ k d m o. h.1 k d m o)

-- two points make a place
pub placed : (xs : List Constant) (v : Option Value) (i j : ℕ) → i ≤ length xs → j ≤ length xs
    → IsPartitionPoint (λ x. is_lt (value_cmp (constant_value x) v) ≡ true) (λ x. is_lt (value_cmp (constant_value x) v) ≡ false) xs i
    → IsPartitionPoint (λ x. is_le (value_cmp (constant_value x) v) ≡ true) (λ x. is_le (value_cmp (constant_value x) v) ≡ false) xs j
    → i + j ≡ place value_cmp (map constant_value xs) v
placed xs v i j l m p q =
    let a = counted (λ x. is_lt (value_cmp (constant_value x) v)) xs i l p in
    let b = counted (λ x. is_le (value_cmp (constant_value x) v)) xs j m q in
    let e = count_map constant_value (λ x. is_lt (value_cmp x v)) xs in
    let f = count_map constant_value (λ x. is_le (value_cmp x v)) xs in
    omega arith

-- ---- Kept by a sort

contains_map : {X Y : Type 0} (f : X → Y) (xs : List X) (x : X) → Contains xs x → Contains (map f xs) (f x)
contains_map f xs x c =
    let long = length-map xs f in
    (c.0, (let inside = c.1 in omega arith), get_or-map f xs c.0 x (f x) c.1 ∙ ap f c.2)

pub known : (ls : List Literal) (xs ys : List Constant) → map constant_view xs ≡ ls → IsPermutation xs ys → All (λ l. Contains (map constant_value ys) (Some (literal_value l))) ls
known ls xs ys e h =
    All-weaker (Contains ls) (λ l. Contains (map constant_value ys) (Some (literal_value l)))
    (λ l c. subst (λ vs. Contains vs (Some (literal_value l))) (map-map (λ l. Some (literal_value l)) constant_view ys) (contains_map (λ l. Some (literal_value l)) (map constant_view ys) l (Contains-permutation ls (map constant_view ys) l (subst (λ zs. IsPermutation zs (map constant_view ys)) e (IsPermutation-map constant_view xs ys h)) c)))
    ls (All-contains_itself ls)
