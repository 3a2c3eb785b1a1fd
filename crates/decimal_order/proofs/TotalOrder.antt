-- The order of values is total, and transitive at any exponents.
use Rattle.std.proofs.Common.{◌≡◌, ℕ, suc, ◌+◌, ◌-◌, ◌*◌, ◌^◌, ◌<◌, ◌≤◌, max, ◌⊎◌, inl, inr, ⊎_elim, sym, ap, ◌∙◌, subst, arith, refl, ◌<ℤ◌, ℤ, pos, negsuc, ◌-ℤ◌, ◌*ℤ◌, ◌≤ℤ◌, neg_ℤ}
use Rattle.std.proofs.lemmas.Int.{ints}
use Rattle.std.proofs.lemmas.Bool.{cases_lt}
use Rattle.std.proofs.lemmas.Nat.{pow-add}
use Rattle.std.proofs.Math.IntN.{negsuc-*ℤ-pos}
use Rattle.std.proofs.Math.Nat.{one-le-pow, mul-le-mul_left, le_of_mul-le-mul_left, mul_assoc}
use Rattle.std.proofs.lemmas.Cmp.{int_cmp_total, int_ranked, on_total}
use Rattle.std.specs.Cmp.{IsTotalOrder, int_cmp_is}
use Rattle.std.specs.Ordering.{MatchOrdering}
use Rattle.std.specs.declared.cmp.Ordering.{Ordering}
use Rattle.std.specs.declared.cmp.Ordering.TheVariants.{Less, Equal, Greater}
use borrow.Author.Differences.{up, down, le_out, at_most_in}
use Rattle.decimal_order.specs.Order.{positive_part, scaled, value_cmp, number_cmp}
use Rattle.decimal_order.specs.Value.{Value, value}
use Rattle.decimal_order.specs.Laws.{IsAtMost, OrdersValues}
use Rattle.decimal_order.proofs.Signs.{neg-*ℤ-pos}
use Rattle.decimal_order.proofs.Exponents.{rises_of}

-- ---- products by a natural

times : (a : ℤ) (k x : ℕ) → (a *ℤ pos k) *ℤ pos x ≡ a *ℤ pos (k * x)
times (pos n) k x = ap pos (mul_assoc n k x)
times (negsuc n) k x = rw (negsuc-*ℤ-pos n k, negsuc-*ℤ-pos n (k * x)) (neg-*ℤ-pos (suc n * k) x ∙ ap (λ m. neg_ℤ (pos m)) (mul_assoc (suc n) k x))

scale : (a b : ℤ) (x : ℕ) → a ≤ℤ b → (a *ℤ pos x) ≤ℤ (b *ℤ pos x)
scale a b x h = let k = mul-le-mul_left x (le_out a b h) in omega (arith, ints)

unscale : (a b : ℤ) (x : ℕ) → 0 < x → (a *ℤ pos x) ≤ℤ (b *ℤ pos x) → a ≤ℤ b
unscale a b x p h =
    let k : x * (up a + down b) ≤ x * (up b + down a) = omega (arith, ints) in
    at_most_in a b (le_of_mul-le-mul_left k p)

raised : (a : ℤ) (i x : ℕ) → (a *ℤ pos (10 ^ i)) *ℤ pos (10 ^ x) ≡ a *ℤ pos (10 ^ (i + x))
raised a i x = times a (10 ^ i) (10 ^ x) ∙ ap (λ n. a *ℤ pos n) (sym (pow-add 10 i x))

scale_up : (a b : ℤ) (i j x : ℕ) → (a *ℤ pos (10 ^ i)) ≤ℤ (b *ℤ pos (10 ^ j)) → (a *ℤ pos (10 ^ (i + x))) ≤ℤ (b *ℤ pos (10 ^ (j + x)))
scale_up a b i j x h = rw (← raised a i x, ← raised b j x) (scale (a *ℤ pos (10 ^ i)) (b *ℤ pos (10 ^ j)) (10 ^ x) h)

scale_down : (a b : ℤ) (i j x : ℕ) → (a *ℤ pos (10 ^ (i + x))) ≤ℤ (b *ℤ pos (10 ^ (j + x))) → (a *ℤ pos (10 ^ i)) ≤ℤ (b *ℤ pos (10 ^ j))
scale_down a b i j x h = unscale (a *ℤ pos (10 ^ i)) (b *ℤ pos (10 ^ j)) (10 ^ x) (one-le-pow x 10 (omega arith)) (rw (raised a i x, raised b j x) h)

at_most_trans : (a b c : ℤ) → a ≤ℤ b → b ≤ℤ c → a ≤ℤ c
at_most_trans a b c h k = omega (arith, ints)

chain : (a b c : ℤ) (i j k l m n x y z : ℕ) → i + x ≡ m + z → j + x ≡ k + y → l + y ≡ n + z → (a *ℤ pos (10 ^ i)) ≤ℤ (b *ℤ pos (10 ^ j)) → (b *ℤ pos (10 ^ k)) ≤ℤ (c *ℤ pos (10 ^ l)) → (a *ℤ pos (10 ^ m)) ≤ℤ (c *ℤ pos (10 ^ n))
chain a b c i j k l m n x y z e f g h q =
    let first : (a *ℤ pos (10 ^ (m + z))) ≤ℤ (b *ℤ pos (10 ^ (k + y))) =
    subst (λ s. (a *ℤ pos (10 ^ s)) ≤ℤ (b *ℤ pos (10 ^ (k + y)))) e (subst (λ s. (a *ℤ pos (10 ^ (i + x))) ≤ℤ (b *ℤ pos (10 ^ s))) f (scale_up a b i j x h)) in
    let second : (b *ℤ pos (10 ^ (k + y))) ≤ℤ (c *ℤ pos (10 ^ (n + z))) =
    subst (λ s. (b *ℤ pos (10 ^ (k + y))) ≤ℤ (c *ℤ pos (10 ^ s))) g (scale_up b c k l y q) in
    scale_down a c m n z (at_most_trans (a *ℤ pos (10 ^ (m + z))) (b *ℤ pos (10 ^ (k + y))) (c *ℤ pos (10 ^ (n + z))) first second)

at_most_total : (a b : ℤ) → (a ≤ℤ b) ⊎ (b ≤ℤ a)
at_most_total a b = ⊎_elim (λ (l : up a + down b < up b + down a). inl (at_most_in a b (omega arith))) (λ (l : up b + down a ≤ up a + down b). inr (at_most_in b a (omega arith))) (cases_lt (up a + down b) (up b + down a))

-- ---- three powers

record Aligned (p q s : ℤ) : Type 0 where
  x : ℕ
  y : ℕ
  z : ℕ
  first : positive_part (p -ℤ q) + x ≡ positive_part (p -ℤ s) + z
  second : positive_part (q -ℤ p) + x ≡ positive_part (q -ℤ s) + y
  third : positive_part (s -ℤ q) + y ≡ positive_part (s -ℤ p) + z

align : (p q s : ℤ) → Aligned p q s
align p q s =
    let a = rises_of p q in
    let b = rises_of q s in
    let c = rises_of p s in
    let d = a.1 in
    let e = b.1 in
    let f = c.1 in
    record {
      x = max (positive_part (p -ℤ q)) (positive_part (p -ℤ s)) - positive_part (p -ℤ q);
      y = max (positive_part (q -ℤ p)) (positive_part (q -ℤ s)) - positive_part (q -ℤ s);
      z = max (positive_part (p -ℤ q)) (positive_part (p -ℤ s)) - positive_part (p -ℤ s);
      first = omega arith;
      second = omega (arith, a.0, b.0, c.0);
      third = omega (arith, a.0, b.0, c.0);
    }

-- ---- the order

at_most_chain : (u v w : Value) → IsAtMost u v → IsAtMost v w → IsAtMost u w
at_most_chain u v w h k =
    let g = align u.exponent v.exponent w.exponent in
    chain u.coefficient v.coefficient w.coefficient (positive_part (u.exponent -ℤ v.exponent)) (positive_part (v.exponent -ℤ u.exponent)) (positive_part (v.exponent -ℤ w.exponent)) (positive_part (w.exponent -ℤ v.exponent)) (positive_part (u.exponent -ℤ w.exponent)) (positive_part (w.exponent -ℤ u.exponent)) g.x g.y g.z g.first g.second g.third h k

abbrev IsBelow : Value → Value → Type 0
IsBelow u v = scaled u v <ℤ scaled v u

below_or_not : (a b : ℤ) → (a <ℤ b) ⊎ (b ≤ℤ a)
below_or_not a b = ⊎_elim (λ (l : up a + down b < up b + down a). inl (omega (arith, ints))) (λ (l : up b + down a ≤ up a + down b). inr (at_most_in b a (omega arith))) (cases_lt (up a + down b) (up b + down a))

below_at_most : (a b : ℤ) → a <ℤ b → a ≤ℤ b
below_at_most a b h = omega (arith, ints)

below_not : (a b : ℤ) → a <ℤ b → b ≤ℤ a → ⊥
below_not a b h k = omega (arith, ints)

equal_at_most : (a b : ℤ) → a ≡ b → a ≤ℤ b
equal_at_most a b e = omega (arith, ints)

at_most_both : (a b : ℤ) → a ≤ℤ b → b ≤ℤ a → a ≡ b
at_most_both a b h k = omega (arith, ints)

below_chain : (u v w : Value) → IsBelow u v → IsAtMost v w → IsBelow u w
below_chain u v w h k = ⊎_elim (λ l. l) (λ (l : IsAtMost w u). absurd (below_not (scaled u v) (scaled v u) h (at_most_chain v w u k l))) (below_or_not (scaled u w) (scaled w u))

at_most_below : (u v w : Value) → IsAtMost u v → IsBelow v w → IsBelow u w
at_most_below u v w h k = ⊎_elim (λ l. l) (λ (l : IsAtMost w u). absurd (below_not (scaled v w) (scaled w v) k (at_most_chain w u v l h))) (below_or_not (scaled u w) (scaled w u))

abbrev RanksValues : Ordering → Value → Value → Type 0
RanksValues o v w = MatchOrdering o (IsBelow v w) (scaled v w ≡ scaled w v) (IsBelow w v)

same_rank : (o : Ordering) (u v w : Value) → IsAtMost u v → IsAtMost v u → RanksValues o v w → RanksValues o u w
same_rank Less u v w h k r = at_most_below u v w h r
same_rank Greater u v w h k r = below_chain w v u r k
same_rank Equal u v w h k r = at_most_both (scaled u w) (scaled w u) (at_most_chain u v w h (equal_at_most (scaled v w) (scaled w v) r)) (at_most_chain w v u (equal_at_most (scaled w v) (scaled v w) (sym r)) k)

ranks_of : (o : Ordering) (v w : Value) → o ≡ value_cmp v w → RanksValues o v w
ranks_of o v w e = int_ranked (scaled v w) (scaled w v) o e

rank_is : (o : Ordering) (v w : Value) → RanksValues o v w → o ≡ value_cmp v w
rank_is o v w r = int_cmp_is (scaled v w) (scaled w v) o r

values_total : IsTotalOrder value_cmp
values_total = record {
  antisymm = (λ x y. int_cmp_total.antisymm (scaled x y) (scaled y x));
  trans = (λ x y z h k. sym (rank_is Less x z (below_chain x y z (ranks_of Less x y (sym h)) (below_at_most (scaled y z) (scaled z y) (ranks_of Less y z (sym k))))));
  congr = (λ x y z e. let s : scaled x y ≡ scaled y x = ranks_of Equal x y (sym e) in sym (rank_is (value_cmp y z) x z (same_rank (value_cmp y z) x y z (equal_at_most (scaled x y) (scaled y x) s) (equal_at_most (scaled y x) (scaled x y) (sym s)) (ranks_of (value_cmp y z) y z refl))));
}

numbers_total : IsTotalOrder number_cmp
unfolding number_cmp
numbers_total = on_total value values_total

pub orders_values : OrdersValues
orders_values = record {
  transitive = at_most_chain;
  total = (λ v w. at_most_total (scaled v w) (scaled w v));
  antisymmetric = (λ v w h k. sym (rank_is Equal v w (at_most_both (scaled v w) (scaled w v) h k)));
  values = values_total;
  numbers = numbers_total;
}
