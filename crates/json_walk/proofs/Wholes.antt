-- A number without an exponent, by its digits.
use Rattle.json_text.proofs.Names.{◌≡◌, ℕ, zero, suc, ◌+◌, ◌-◌, ◌<◌, ◌≤◌, inl, inr, List, [], ◌∷◌, length, take, drop, get_or, false, sym, ap, subst}
use Rattle.json_text.proofs.Names.{arith, append-nil, drop_more, take_all, take-append-drop, length-drop, drop_all, cases_lt}
use Rattle.std.proofs.lemmas.List.{drop-drop}
use Rattle.decimal_order.specs.Number.{IsDigit, AreDigits, AreSomeDigits, Optional, IsInt, IsFrac, IsNumber}
use Rattle.decimal_order.specs.Value.{is_e}
use Rattle.decimal_order.specs.Laws.{LateExponentsKeepLimits}
use Rattle.decimal_order.specs.Limits.{IsWithinLimits}
use Rattle.json_walk.specs.Lexing.{DigitsStand, IsFraction, HasNoExponent}

-- the digits from a place on, as a list
digits_part : (bs : List ℕ) (n a : ℕ) → a + n ≤ length bs → DigitsStand bs a (a + n) → AreDigits (take n (drop a bs))
digits_part bs zero a l h = tt
digits_part bs (suc n) a l h = let rest = digits_part bs n (a + 1) (omega arith) (λ k from to. h k (omega arith) (omega arith)) in
    subst (λ x. AreDigits (take (suc n) x)) (sym (drop_more bs a 0 (omega arith))) (h a (omega arith) (omega arith), rest)

digits_last : (bs : List ℕ) (a : ℕ) → a < length bs → DigitsStand bs a (length bs) → AreSomeDigits (drop a bs)
digits_last bs a l h = let z : a + (length bs - a) ≡ length bs = omega arith in let long = length-drop a bs in
    let all = digits_part bs (length bs - a) a (omega arith) (subst (DigitsStand bs a) (sym z) h) in
    some (drop a bs) (omega (arith, long)) (subst AreDigits (take_all (length bs - a) (drop a bs) (omega (arith, long))) all)
  where
    some : (ds : List ℕ) → 0 < length ds → AreDigits ds → AreSomeDigits ds
    some ds l h = search arith

int_part : (bs : List ℕ) (n a : ℕ) → a + suc n ≤ length bs → DigitsStand bs a (a + suc n) → (get_or bs a 0 ≡ 48 → n ≡ 0) → IsInt (take (suc n) (drop a bs))
int_part bs n a l h lead =
    let d = h a (omega arith) (omega arith) in let rest = digits_part bs n (a + 1) (omega arith) (λ k from to. h k (omega arith) (omega arith)) in
    subst (λ x. IsInt (take (suc n) x)) (sym (drop_more bs a 0 (omega arith))) (by_lead (get_or bs a 0) (take n (drop (a + 1) bs)) d rest (λ e. ap (λ m. take m (drop (a + 1) bs)) (lead e)))
  where
    by_lead : (b : ℕ) (ds : List ℕ) → IsDigit b → AreDigits ds → (b ≡ 48 → ds ≡ []) → IsInt (b ∷ ds)
    by_lead b ds d rest none = elim (cases_lt 48 b) [ inl a ↦ inr (a, d.1, rest) | inr a ↦ (let e : b ≡ 48 = omega (arith, d.0) in inl (e, none e)) ]

number_of : (bs : List ℕ) (start n : ℕ) → start ≤ 1 → (start ≡ 1 → get_or bs 0 0 ≡ 45) → start + suc n ≤ length bs → DigitsStand bs start (start + suc n) → (get_or bs start 0 ≡ 48 → n ≡ 0) → Optional IsFrac (drop (start + suc n) bs) → IsNumber bs
number_of bs start n one m l digits lead f = grind (arith, int_part bs n start l digits lead, take-append-drop start bs, take-append-drop (suc n) (drop start bs), drop-drop (suc n) start bs, append-nil (drop (start + suc n) bs))

-- digits alone, behind a sign or none
pub whole_number : (bs : List ℕ) (start point : ℕ) → start ≤ 1 → (start ≡ 1 → get_or bs 0 0 ≡ 45) → start < point → point ≡ length bs → DigitsStand bs start point → (get_or bs start 0 ≡ 48 → point ≤ start + 1) → IsNumber bs
whole_number bs start point one m p l digits lead = let n = point - (start + 1) in let z : start + suc n ≡ point = omega arith in
    number_of bs start n one m (omega (arith, z, l)) (subst (DigitsStand bs start) (sym z) digits) (λ e. let few = lead e in omega arith) (inl (drop_all (start + suc n) bs (omega (arith, z, l))))

-- and a fraction
pub decimal_number : (bs : List ℕ) (start point : ℕ) → start ≤ 1 → (start ≡ 1 → get_or bs 0 0 ≡ 45) → start < point → point < length bs → DigitsStand bs start point → (get_or bs start 0 ≡ 48 → point ≤ start + 1) → IsFraction bs point → IsNumber bs
decimal_number bs start point one m p l digits lead f = let n = point - (start + 1) in let z : start + suc n ≡ point = omega arith in
    let frac = subst IsFrac (sym (drop_more bs point 0 l)) (f.0, digits_last bs (point + 1) f.1 f.2) in
    number_of bs start n one m (omega (arith, z, l)) (subst (DigitsStand bs start) (sym z) digits) (λ e. let few = lead e in omega arith) (inr (subst (λ x. IsFrac (drop x bs)) (sym z) frac))

-- ---- No byte of it begins an exponent

before_point : (bs : List ℕ) (start point k : ℕ) → start ≤ 1 → (start ≡ 1 → get_or bs 0 0 ≡ 45) → DigitsStand bs start point → k < point → is_e (get_or bs k 0) ≡ false
before_point bs start point k one m digits l = grind arith

whole_plain : (bs : List ℕ) (start point : ℕ) → start ≤ 1 → (start ≡ 1 → get_or bs 0 0 ≡ 45) → point ≡ length bs → DigitsStand bs start point → HasNoExponent bs
whole_plain bs start point one m p digits = λ k l. before_point bs start point k one m digits (omega arith)

decimal_plain : (bs : List ℕ) (start point : ℕ) → start ≤ 1 → (start ≡ 1 → get_or bs 0 0 ≡ 45) → DigitsStand bs start point → IsFraction bs point → HasNoExponent bs
decimal_plain bs start point one m digits f = grind (arith, before_point)

-- ---- And it is within the limits of numbers, where it is short

pub short_whole : LateExponentsKeepLimits → (bs : List ℕ) (start point : ℕ) → start ≤ 1 → (start ≡ 1 → get_or bs 0 0 ≡ 45) → point ≡ length bs → DigitsStand bs start point → point < 32 → IsWithinLimits bs
short_whole law bs start point one m p digits few = law bs (length bs) (omega (arith, p, few)) (omega (arith, p, few)) (whole_plain bs start point one m p digits)

pub short_decimal : LateExponentsKeepLimits → (bs : List ℕ) (start point : ℕ) → start ≤ 1 → (start ≡ 1 → get_or bs 0 0 ≡ 45) → DigitsStand bs start point → IsFraction bs point → length bs ≤ 32 → IsWithinLimits bs
short_decimal law bs start point one m digits f few = law bs (length bs) (omega (arith, few)) (omega (arith, few)) (decimal_plain bs start point one m digits f)
