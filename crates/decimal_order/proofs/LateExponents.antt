-- A text of few bytes in which no e stands far from the end keeps the limits.
use Rattle.std.proofs.Common.{◌⊎◌, inl, inr, ◌≡◌, ℕ, zero, ◌+◌, ◌^◌, ◌<◌, ◌≤◌, Bool, true, false, List, [], ◌∷◌, length, filter, get_or, refl, arith, length-drop}
use Rattle.std.specs.Char.{is_ascii_digit}
use Rattle.std.specs.List.{position_or_len}
use Rattle.std.proofs.lemmas.Bool.{cases_lt}
use Rattle.std.proofs.lemmas.List.Sums.{passes_at_first}
use Rattle.std.proofs.Math.Nat.{pow-le-pow_right}
use Rattle.decimal_order.specs.Number.{AreDigits}
use Rattle.decimal_order.specs.Value.{is_e, exponent_part, exponent_size}
use Rattle.decimal_order.specs.Limits.{exponent_limit, short_length}
use Rattle.decimal_order.specs.Laws.{LateExponentsKeepLimits}
use Rattle.decimal_order.proofs.Readings.{digit-out}
use Rattle.decimal_order.proofs.Digits.{value_bound}

kept_digits : (bs : List ℕ) → AreDigits (filter is_ascii_digit bs)
kept_digits [] = tt
kept_digits (b ∷ bs) = go (is_ascii_digit b) refl (kept_digits bs)
  where
    go : (t : Bool) → is_ascii_digit b ≡ t → AreDigits (filter is_ascii_digit bs) → AreDigits (filter is_ascii_digit (b ∷ bs))
    go true e h = rw e (digit-out b e, h)
    go false e h = rw e h

kept_few : (bs : List ℕ) → length (filter is_ascii_digit bs) ≤ length bs
kept_few [] = omega arith
kept_few (b ∷ bs) = go (is_ascii_digit b) refl (kept_few bs)
  where
    go : (t : Bool) → is_ascii_digit b ≡ t → length (filter is_ascii_digit bs) ≤ length bs → length (filter is_ascii_digit (b ∷ bs)) ≤ length (b ∷ bs)
    go true e h = rw e (omega arith)
    go false e h = rw e (omega arith)

exponent_small : (text : List ℕ) (front : ℕ) → length text ≤ front + short_length → ((k : ℕ) → k < front → is_e (get_or text k 0) ≡ false) → exponent_size text ≤ exponent_limit
unfolding exponent_size
exponent_small text front h none =
    let part = exponent_part text in
    let ds = filter is_ascii_digit part in
    let place = position_or_len is_e text in
    let late : (front ≤ place) ⊎ (length text ≤ place) = elim (cases_lt place front) [
      | inl early ↦ elim (cases_lt place (length text)) [
        | inl inside ↦ (let e = passes_at_first is_e text 0 inside in let n = none place early in absurd (cc))
        | inr over ↦ inr over
      ]
      | inr past ↦ inl past
    ] in
    let d = length-drop (place + 1) text in
    let f = kept_few part in
    let v = value_bound ds (kept_digits part) in
    let ten : zero < 10 = omega arith in
    let few : length ds ≤ 9 = elim late [ inl l ↦ omega arith | inr l ↦ omega arith ] in
    let p : 10 ^ length ds ≤ 10 ^ 9 = pow-le-pow_right {n = 10} ten few in
    omega arith

pub late_exponents_keep_limits : LateExponentsKeepLimits
late_exponents_keep_limits text front few late none = record { bytes = few; exponent = exponent_small text front late none }
