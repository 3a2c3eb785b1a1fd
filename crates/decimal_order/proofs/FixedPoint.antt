-- The order of values that are brought to one exponent, and of numbers with no sign and no exponent.
use Rattle.std.proofs.Common.{◌≡◌, ℕ, suc, ◌+◌, ◌-◌, ◌*◌, ◌^◌, ◌<◌, ◌≤◌, List, ◌++◌, length, ◌⊎◌, inl, inr, ⊎_elim, refl, ap, ◌∙◌, arith, ◌-ℤ◌, false, []}
use Rattle.std.proofs.Math.Nat.{one-le-pow, mul-le-mul_left}
use Rattle.std.proofs.lemmas.Nat.{pow-add}
use Rattle.std.proofs.lemmas.Bool.{cases_lt}
use Rattle.std.specs.declared.cmp.Ordering.{Ordering}
use Rattle.std.specs.declared.cmp.Ordering.TheVariants.{Less, Equal, Greater}
use Rattle.decimal_order.specs.Value.{digits_value}
use Rattle.decimal_order.specs.Order.{positive_part, value_cmp}
use Rattle.decimal_order.specs.Parts.{Parts, digits, parts_value}
use Rattle.decimal_order.specs.Places.{digit, made, magnitude, Ranks, gain, loss}
use Rattle.decimal_order.proofs.Digits.{value_is_made, made_padded, digit_past}
use Rattle.decimal_order.proofs.Exponents.{rises}
use Rattle.decimal_order.proofs.Signs.{order_up}
use Rattle.decimal_order.proofs.Words.{value-append}

unscaled_less : (a b t : ℕ) → a * t < b * t → a < b
unscaled_less a b t h = ⊎_elim (λ l. l) (λ (l : b ≤ a). let m : t * b ≤ t * a = mul-le-mul_left t l in absurd (omega arith)) (cases_lt a b)

unscaled_same : (a b t : ℕ) → 0 < t → a * t ≡ b * t → a ≡ b
unscaled_same a b t p e = ⊎_elim
    (λ (l : a < b). let m : t * suc a ≤ t * b = mul-le-mul_left t (omega arith) in absurd (omega arith))
    (λ (l : b ≤ a). ⊎_elim (λ (k : b < a). let m : t * suc b ≤ t * a = mul-le-mul_left t (omega arith) in absurd (omega arith)) (λ (k : a ≤ b). omega arith) (cases_lt b a))
    (cases_lt a b)

unscaled_rank : (o : Ordering) (a b t : ℕ) → 0 < t → Ranks o (a * t) (b * t) → Ranks o a b
unscaled_rank Less a b t p r = unscaled_less a b t r
unscaled_rank Equal a b t p r = unscaled_same a b t p r
unscaled_rank Greater a b t p r = unscaled_less b a t r

scaled_rank : (a b i j r s : ℕ) (o : Ordering) → i + s ≡ j + r → (r ≡ 0) ⊎ (s ≡ 0) → Ranks o (a * 10 ^ i) (b * 10 ^ j) → Ranks o (a * 10 ^ r) (b * 10 ^ s)
scaled_rank a b i j r s o e (inl z) h =
    let p : 10 ^ j ≡ 10 ^ s * 10 ^ i = ap (λ n. 10 ^ n) (omega arith) ∙ pow-add 10 s i in
    let x : a * 10 ^ i ≡ a * 10 ^ r * 10 ^ i = rw z (omega arith) in
    let y : b * 10 ^ j ≡ b * 10 ^ s * 10 ^ i = rw p (omega arith) in
    unscaled_rank o (a * 10 ^ r) (b * 10 ^ s) (10 ^ i) (one-le-pow i 10 (omega arith)) (rw (← x, ← y) h)
scaled_rank a b i j r s o e (inr z) h =
    let p : 10 ^ i ≡ 10 ^ r * 10 ^ j = ap (λ n. 10 ^ n) (omega arith) ∙ pow-add 10 r j in
    let x : a * 10 ^ i ≡ a * 10 ^ r * 10 ^ j = rw p (omega arith) in
    let y : b * 10 ^ j ≡ b * 10 ^ s * 10 ^ j = rw z (omega arith) in
    unscaled_rank o (a * 10 ^ r) (b * 10 ^ s) (10 ^ j) (one-le-pow j 10 (omega arith)) (rw (← x, ← y) h)

-- at any exponent that is not above both, the coefficients compare as the values
pub at_exponent : (m n : Parts) (i j : ℕ) (o : Ordering)
    → i + (gain n.exponent_negative (digits_value n.exponent) + loss m.exponent_negative (digits_value m.exponent) + length m.frac) ≡ j + (gain m.exponent_negative (digits_value m.exponent) + loss n.exponent_negative (digits_value n.exponent) + length n.frac)
    → Ranks o (digits_value (digits m) * 10 ^ i) (digits_value (digits n) * 10 ^ j)
    → Ranks o (magnitude m n) (magnitude n m)
at_exponent m n i j o e h =
    let v = rises m n in
    let b = v.balanced in
    scaled_rank (digits_value (digits m)) (digits_value (digits n)) i j (positive_part ((parts_value m).exponent -ℤ (parts_value n).exponent)) (positive_part ((parts_value n).exponent -ℤ (parts_value m).exponent)) o (omega arith) v.one_is_zero h

-- ---- whole parts and fractions

-- the first k digits of a fraction decide only between equal whole parts
pub whole_less : (i j x y t : ℕ) → x < t → i < j → i * t + x < j * t + y
whole_less i j x y t h l = let m : t * suc i ≤ t * j = mul-le-mul_left t l in omega arith

closer_less : (i j x y t : ℕ) → x < t → y < t → i * (10 * t) + x < j * (10 * t) + y → i * t + x < j * t + y
closer_less i j x y t h k r = ⊎_elim
    (λ (l : i < j). whole_less i j x y t h l)
    (λ (l : j ≤ i). ⊎_elim
    (λ (g : j < i). let m = whole_less j i y x (10 * t) (omega arith) g in absurd (omega arith))
    (λ (g : i ≤ j). let e : i ≡ j = omega arith in let w = ap (λ n. n * (10 * t)) e in let v = ap (λ n. n * t) e in omega arith)
    (cases_lt j i))
    (cases_lt i j)

closer_same : (i j x y t : ℕ) → x < t → y < t → i * (10 * t) + x ≡ j * (10 * t) + y → i * t + x ≡ j * t + y
closer_same i j x y t h k r = ⊎_elim
    (λ (l : i < j). let m = whole_less i j x y (10 * t) (omega arith) l in absurd (omega arith))
    (λ (l : j ≤ i). ⊎_elim
    (λ (g : j < i). let m = whole_less j i y x (10 * t) (omega arith) g in absurd (omega arith))
    (λ (g : i ≤ j). let e : i ≡ j = omega arith in let w = ap (λ n. n * (10 * t)) e in let v = ap (λ n. n * t) e in omega arith)
    (cases_lt j i))
    (cases_lt i j)

-- a zero between the whole part and the fraction changes no order
pub closer_rank : (o : Ordering) (i j x y t : ℕ) → x < t → y < t → Ranks o (i * (10 * t) + x) (j * (10 * t) + y) → Ranks o (i * t + x) (j * t + y)
closer_rank Less i j x y t h k r = closer_less i j x y t h k r
closer_rank Equal i j x y t h k r = closer_same i j x y t h k r
closer_rank Greater i j x y t h k r = closer_less j i y x t k h r

-- no sign and no exponent
abbrev pub unsigned : List ℕ → List ℕ → Parts
unsigned int frac = record { negative = false; int = int; frac = frac; exponent_negative = false; exponent = [] }

-- the first k digits of a fraction
abbrev pub decimals : List ℕ → ℕ → ℕ
decimals frac k = made (digit frac) k

pub fixed_is : (int frac : List ℕ) (k : ℕ) → length frac ≤ k → digits_value (int ++ frac) * 10 ^ (k - length frac) ≡ digits_value int * 10 ^ k + decimals frac k
fixed_is int frac k l =
    let e : length frac + (k - length frac) ≡ k = omega arith in
    let p = made_padded (digit frac) (length frac) (k - length frac) (λ i g. digit_past frac i g) in
    let q = pow-add 10 (length frac) (k - length frac) in
    let w : 10 ^ (length frac + (k - length frac)) ≡ 10 ^ k = ap (λ n. 10 ^ n) e in
    let v : decimals frac (length frac + (k - length frac)) ≡ decimals frac k = ap (decimals frac) e in
    let x = value_is_made frac in
    rw (value-append int frac, x, ← v, ← w, p, q) (omega arith)

pub fixed_order : (int frac int' frac' : List ℕ) (k : ℕ) (o : Ordering) → length frac ≤ k → length frac' ≤ k
    → Ranks o (digits_value int * 10 ^ k + decimals frac k) (digits_value int' * 10 ^ k + decimals frac' k)
    → o ≡ value_cmp (parts_value (unsigned int frac)) (parts_value (unsigned int' frac'))
fixed_order int frac int' frac' k o l m r =
    order_up (unsigned int frac) (unsigned int' frac') o refl refl
    (at_exponent (unsigned int frac) (unsigned int' frac') (k - length frac) (k - length frac') o (omega arith) (rw (fixed_is int frac k l, fixed_is int' frac' k m) r))
