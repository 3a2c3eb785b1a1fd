-- From the order of magnitudes and the signs to the order of values.
use Rattle.std.proofs.Common.{◌≡◌, ℕ, zero, suc, ◌+◌, ◌*◌, ◌<◌, Bool, true, false, ◌⊎◌, ⊎_elim, refl, sym, ◌∙◌, arith, pos, ◌*ℤ◌, neg_ℤ, ◌<ℤ◌}
use Rattle.std.proofs.lemmas.Int.{ints}
use Rattle.std.proofs.lemmas.Bool.Decides.{nat_tests}
use mathlib.Core.Bool.{beq, not}
use Rattle.std.specs.Prelude.{IsTrue}
use Rattle.std.specs.Cmp.{int_cmp_is}
use Rattle.std.specs.Ordering.{MatchOrdering}
use Rattle.std.proofs.Math.IntN.{negsuc-*ℤ-pos, zero-*ℤ}
use Rattle.std.proofs.Math.Nat.{le-mul_of_pos_right}
use Rattle.std.specs.declared.cmp.Ordering.{Ordering}
use Rattle.std.specs.declared.cmp.Ordering.TheVariants.{Less, Equal, Greater}
use Rattle.decimal_order.specs.Value.{Value, digits_value, signed}
use Rattle.decimal_order.specs.Order.{scaled, value_cmp}
use Rattle.decimal_order.specs.Parts.{Parts, digits, parts_value}
use Rattle.decimal_order.proofs.Exponents.{factor, factor_positive}
use Rattle.decimal_order.specs.Places.{magnitude, Ranks}

-- how one coefficient compares with the other, once both have the lesser exponent
abbrev RanksValues : Ordering → Value → Value → Type 0
RanksValues o v w = MatchOrdering o (scaled v w <ℤ scaled w v) (scaled v w ≡ scaled w v) (scaled w v <ℤ scaled v w)

ranked : (o : Ordering) (v w : Value) → RanksValues o v w → o ≡ value_cmp v w
ranked o v w h = int_cmp_is (scaled v w) (scaled w v) o h

pub neg-*ℤ-pos : (a k : ℕ) → neg_ℤ (pos a) *ℤ pos k ≡ neg_ℤ (pos (a * k))
neg-*ℤ-pos zero k = let e : 0 * k ≡ 0 = omega arith in rw e refl
neg-*ℤ-pos (suc a) k = negsuc-*ℤ-pos a k

both_up : (v w : Value) (a b k l : ℕ) (o : Ordering) → scaled v w ≡ pos a *ℤ pos k → scaled w v ≡ pos b *ℤ pos l → Ranks o (a * k) (b * l) → RanksValues o v w
both_up v w a b k l Less e f h = rw (e, f) (omega (arith, ints))
both_up v w a b k l Equal e f h = rw (e, f) (omega (arith, ints))
both_up v w a b k l Greater e f h = rw (e, f) (omega (arith, ints))

both_down : (v w : Value) (a b k l : ℕ) (o : Ordering) → scaled v w ≡ neg_ℤ (pos a) *ℤ pos k → scaled w v ≡ neg_ℤ (pos b) *ℤ pos l → Ranks o (b * l) (a * k) → RanksValues o v w
both_down v w a b k l Less e f h = rw (e, f, neg-*ℤ-pos a k, neg-*ℤ-pos b l) (omega (arith, ints))
both_down v w a b k l Equal e f h = rw (e, f, neg-*ℤ-pos a k, neg-*ℤ-pos b l) (omega (arith, ints))
both_down v w a b k l Greater e f h = rw (e, f, neg-*ℤ-pos a k, neg-*ℤ-pos b l) (omega (arith, ints))

scaled_is : (m n : Parts) (t : Bool) → m.negative ≡ t → scaled (parts_value m) (parts_value n) ≡ signed t (digits_value (digits m)) *ℤ pos (factor m n)
scaled_is m n t e = rw e refl

pub order_up : (m n : Parts) (o : Ordering) → m.negative ≡ false → n.negative ≡ false → Ranks o (magnitude m n) (magnitude n m) → o ≡ value_cmp (parts_value m) (parts_value n)
order_up m n o e f h = ranked _ (parts_value m) (parts_value n) (both_up (parts_value m) (parts_value n) (digits_value (digits m)) (digits_value (digits n)) (factor m n) (factor n m) o (scaled_is m n false e) (scaled_is n m false f) h)

pub order_down : (m n : Parts) (o : Ordering) → m.negative ≡ true → n.negative ≡ true → Ranks o (magnitude n m) (magnitude m n) → o ≡ value_cmp (parts_value m) (parts_value n)
order_down m n o e f h = ranked _ (parts_value m) (parts_value n) (both_down (parts_value m) (parts_value n) (digits_value (digits m)) (digits_value (digits n)) (factor m n) (factor n m) o (scaled_is m n true e) (scaled_is n m true f) h)

product_pos : (a b k l : ℕ) → 0 < k → 0 < l → (0 < a) ⊎ (0 < b) → 0 < a * k + b * l
product_pos a b k l x y h = ⊎_elim (λ g. let e = le-mul_of_pos_right k g in omega arith) (λ g. let e = le-mul_of_pos_right l g in omega arith) h

apart_less : (v w : Value) (a b k l : ℕ) → scaled v w ≡ neg_ℤ (pos a) *ℤ pos k → scaled w v ≡ pos b *ℤ pos l → 0 < a * k + b * l → RanksValues Less v w
apart_less v w a b k l e f h = rw (e, f, neg-*ℤ-pos a k) (omega (arith, ints))

apart_more : (v w : Value) (a b k l : ℕ) → scaled v w ≡ pos a *ℤ pos k → scaled w v ≡ neg_ℤ (pos b) *ℤ pos l → 0 < a * k + b * l → RanksValues Greater v w
apart_more v w a b k l e f h = rw (e, f, neg-*ℤ-pos b l) (omega (arith, ints))

pub order_apart_less : (m n : Parts) → m.negative ≡ true → n.negative ≡ false → (0 < digits_value (digits m)) ⊎ (0 < digits_value (digits n)) → Less ≡ value_cmp (parts_value m) (parts_value n)
order_apart_less m n e f h = ranked _ (parts_value m) (parts_value n) (apart_less (parts_value m) (parts_value n) (digits_value (digits m)) (digits_value (digits n)) (factor m n) (factor n m) (scaled_is m n true e) (scaled_is n m false f) (product_pos (digits_value (digits m)) (digits_value (digits n)) (factor m n) (factor n m) (factor_positive m n) (factor_positive n m) h))

pub order_apart_more : (m n : Parts) → m.negative ≡ false → n.negative ≡ true → (0 < digits_value (digits m)) ⊎ (0 < digits_value (digits n)) → Greater ≡ value_cmp (parts_value m) (parts_value n)
order_apart_more m n e f h = ranked _ (parts_value m) (parts_value n) (apart_more (parts_value m) (parts_value n) (digits_value (digits m)) (digits_value (digits n)) (factor m n) (factor n m) (scaled_is m n false e) (scaled_is n m true f) (product_pos (digits_value (digits m)) (digits_value (digits n)) (factor m n) (factor n m) (factor_positive m n) (factor_positive n m) h))

scaled_zero : (m n : Parts) (t : Bool) → m.negative ≡ t → digits_value (digits m) ≡ 0 → scaled (parts_value m) (parts_value n) ≡ pos 0
scaled_zero m n true e z = scaled_is m n true e ∙ rw z (zero-*ℤ (pos (factor m n)))
scaled_zero m n false e z = scaled_is m n false e ∙ rw z (zero-*ℤ (pos (factor m n)))

pub order_zero : (m n : Parts) → digits_value (digits m) ≡ 0 → digits_value (digits n) ≡ 0 → Equal ≡ value_cmp (parts_value m) (parts_value n)
order_zero m n y z = ranked Equal (parts_value m) (parts_value n) (scaled_zero m n m.negative refl y ∙ sym (scaled_zero n m n.negative refl z))

pub same_sign : (a b : Bool) → beq a b ≡ true → a ≡ b
same_sign true true e = refl
same_sign false false e = refl
same_sign true false e = sym e
same_sign false true e = e

pub not_apart : (a b : Bool) → not (beq a b) ≡ false → a ≡ b
not_apart true true e = refl
not_apart false false e = refl
not_apart true false e = e
not_apart false true e = sym e

pub other_sign : (a b : Bool) → beq a b ≡ false → b ≡ not a
other_sign true true e = e
other_sign true false e = refl
other_sign false true e = refl
other_sign false false e = sym e

pub positive_when : (b : Bool) (n : ℕ) → (IsTrue b → n ≡ 0) × (n ≡ 0 → IsTrue b) → b ≡ false → 0 < n
positive_when b zero h e = absurd (not_true b (h.1 refl) e)
  where
    not_true : (b : Bool) → IsTrue b → b ≡ false → ⊥
    not_true b t e = grind (arith, nat_tests)
positive_when b (suc n) h e = omega arith
