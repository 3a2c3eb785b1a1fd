-- From digits and their leading places to the order of magnitudes.
use Rattle.std.proofs.Common.{◌≡◌, ℕ, suc, ◌+◌, ◌-◌, ◌^◌, ◌<◌, ◌≤◌, List, length, length-append, ⊎_elim, sym, ap, ◌∙◌, arith, max, add-zero, ◌-ℤ◌}
use Rattle.std.proofs.lemmas.Bool.{cases_lt}
use Rattle.std.proofs.lemmas.Bool.Decides.{nat_tests}
use Rattle.std.specs.Prelude.{IsTrue, nat_eq}
use Rattle.std.proofs.Math.Nat.{one-le-pow, le-mul_of_pos_right}
use Rattle.std.specs.declared.cmp.Ordering.{Ordering}
use Rattle.decimal_order.specs.Number.{AreDigits}
use Rattle.decimal_order.specs.Value.{digits_value}
use Rattle.decimal_order.specs.Order.{positive_part}
use Rattle.decimal_order.specs.Parts.{Parts, digits, parts_value}
use Rattle.decimal_order.specs.Places.{digit, made, magnitude, Ranks, AreLeadingZeros, IsLead}
use Rattle.decimal_order.proofs.Digits.{value_is_made, made_from, made_padded, made_below, made_above, made_zero, lead_less, digit_bound, digit_past}
use Rattle.decimal_order.proofs.Exponents.{rises, factor, factor_positive}

abbrev past : List ℕ → ℕ → ℕ → ℕ
past ds zeros i = digit ds (zeros + i)

value_past : (ds : List ℕ) (zeros n : ℕ) → AreLeadingZeros ds zeros → zeros + n ≡ length ds → digits_value ds ≡ made (past ds zeros) n
value_past ds zeros n h e = value_is_made ds ∙ ap (made (digit ds)) (sym e) ∙ made_from (digit ds) zeros n h.zero_before

pub value_zero : (ds : List ℕ) (n : ℕ) → AreLeadingZeros ds n → length ds ≤ n → digits_value ds ≡ 0
value_zero ds n h l = value_is_made ds ∙ made_zero (digit ds) (length ds) (λ i g. h.zero_before i (omega arith))

-- at least 10 ^ j, where j digits stand behind the first that is not 0
pub value_above : (ds : List ℕ) (zeros j : ℕ) → AreLeadingZeros ds zeros → zeros + suc j ≡ length ds → 10 ^ j ≤ digits_value ds
value_above ds zeros j h e =
    let o : 0 < past ds zeros 0 = rw (add-zero zeros) (h.then_other (omega arith)) in
    rw (value_past ds zeros (suc j) h e) (made_above (past ds zeros) j o)

value_below : (ds : List ℕ) (zeros n : ℕ) → AreDigits ds → AreLeadingZeros ds zeros → zeros + n ≡ length ds → digits_value ds < 10 ^ n
value_below ds zeros n d h e = rw (value_past ds zeros n h e) (made_below (past ds zeros) n (λ i. digit_bound ds d (zeros + i)))

pub value_positive : (ds : List ℕ) (zeros : ℕ) → AreLeadingZeros ds zeros → zeros < length ds → 0 < digits_value ds
value_positive ds zeros h l =
    let j : zeros + suc (length ds - suc zeros) ≡ length ds = omega arith in
    let p = value_above ds zeros (length ds - suc zeros) h j in
    let q = one-le-pow (length ds - suc zeros) 10 (omega arith) in
    omega arith

-- the lower leading place is the lesser number
pub size_less : (m n : Parts) (y z lead lead' : ℕ) → AreDigits (digits m) → AreLeadingZeros (digits m) y → AreLeadingZeros (digits n) z → z < length (digits n) → IsLead m y lead → IsLead n z lead' → lead < lead' → magnitude m n < magnitude n m
size_less m n y z lead lead' d a b l p q h =
    let r = rises m n in
    let s = r.balanced in
    let t = a.inside in
    let e = length-append m.int m.frac in
    let f = length-append n.int n.frac in
    lead_less (digits_value (digits m)) (digits_value (digits n)) (length (digits m) - y) (length (digits n) - suc z) (positive_part ((parts_value m).exponent -ℤ (parts_value n).exponent)) (positive_part ((parts_value n).exponent -ℤ (parts_value m).exponent))
    (value_below (digits m) y (length (digits m) - y) d a (omega arith))
    (value_above (digits n) z (length (digits n) - suc z) b (omega arith))
    (omega arith)

-- a row of digits that is long enough
size_made : (m n : Parts) (y places : ℕ) → AreLeadingZeros (digits m) y → (length (digits m) - y) + positive_part ((parts_value m).exponent -ℤ (parts_value n).exponent) ≡ places → magnitude m n ≡ made (past (digits m) y) places
size_made m n y places a e =
    let t = a.inside in
    let w : y + (length (digits m) - y) ≡ length (digits m) = omega arith in
    rw (value_past (digits m) y (length (digits m) - y) a w) (sym (made_padded (past (digits m) y) (length (digits m) - y) (positive_part ((parts_value m).exponent -ℤ (parts_value n).exponent)) (λ i g. digit_past (digits m) (y + i) (omega arith))) ∙ ap (made (past (digits m) y)) e)

same_order : (o : Ordering) (a b c d : ℕ) → a ≡ c → b ≡ d → Ranks o c d → Ranks o a b
same_order o a b c d e f h = rw (e, f) h

-- at the same leading place the digits decide
pub size_by_digits : (m n : Parts) (y z lead : ℕ) (o : Ordering) → AreLeadingZeros (digits m) y → AreLeadingZeros (digits n) z → IsLead m y lead → IsLead n z lead
    → Ranks o (made (past (digits m) y) (max (length (digits m) - y) (length (digits n) - z))) (made (past (digits n) z) (max (length (digits m) - y) (length (digits n) - z)))
    → Ranks o (magnitude m n) (magnitude n m)
size_by_digits m n y z lead o a b p q h =
    let r = rises m n in
    let s = r.balanced in
    let g = r.one_is_zero in
    let t = a.inside in
    let u = b.inside in
    let e = length-append m.int m.frac in
    let f = length-append n.int n.frac in
    same_order o (magnitude m n) (magnitude n m) (made (past (digits m) y) (max (length (digits m) - y) (length (digits n) - z))) (made (past (digits n) z) (max (length (digits m) - y) (length (digits n) - z)))
    (size_made m n y (max (length (digits m) - y) (length (digits n) - z)) a (omega arith)) (size_made n m z (max (length (digits m) - y) (length (digits n) - z)) b (omega arith)) h

pub size_zero : (m n : Parts) → digits_value (digits m) ≡ 0 → magnitude m n ≡ 0
size_zero m n e = rw e (omega arith)

pub size_positive : (m n : Parts) → 0 < digits_value (digits m) → 0 < magnitude m n
size_positive m n h = let e = le-mul_of_pos_right (factor m n) h in let p = factor_positive m n in omega arith

pub zero_when : (ds : List ℕ) (z n : ℕ) → AreLeadingZeros ds z → n ≡ length ds → (IsTrue (nat_eq z n) → digits_value ds ≡ 0) × (digits_value ds ≡ 0 → IsTrue (nat_eq z n))
zero_when ds z n h e = ⊎_elim
    (λ (l : z < length ds). let p = value_positive ds z h l in ((λ t. let q : z ≡ n = grind (arith, nat_tests) in absurd (omega arith)), (λ v. absurd (omega arith))))
    (λ (l : length ds ≤ z). let i = h.inside in ((λ _. value_zero ds z h l), (λ _. let q : z ≡ n = omega arith in grind (arith, nat_tests))))
    (cases_lt z (length ds))
