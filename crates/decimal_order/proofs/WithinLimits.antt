-- Numbers within the limits, as texts and as parts.
use Rattle.std.proofs.Common.{◌≡◌, ℕ, ◌<◌, ◌≤◌, Bool, List, length, Option, Some, None, sym, ◌∙◌, arith}
use Rattle.std.proofs.lemmas.Bool.{false≢true}
use Rattle.std.specs.Prelude.{IsTrue, is_some, MatchOption}
use Rattle.decimal_order.specs.Number.{AreDigits}
use Rattle.decimal_order.specs.Value.{digits_value}
use Rattle.decimal_order.specs.Limits.{IsWithinLimits}
use Rattle.decimal_order.specs.Parts.{Parts, HasParts, AreWithinLimits, digits}
use Rattle.decimal_order.proofs.Readings.{int_digits, number_length, number_frac_digits, number_exp_digits, digits-append}
use Rattle.decimal_order.proofs.Texts.{exponent_size_is}

pub parts_within : (text : List ℕ) (p : Parts) → HasParts text p → IsWithinLimits text → AreWithinLimits p
parts_within text p h w =
    let l = number_length h in
    let s = w.bytes in
    let x = w.exponent in
    let e = exponent_size_is h in
    record { int_digits = int_digits p.int h.is_int; frac_digits = number_frac_digits h; exponent_digits = number_exp_digits h; few = omega arith; near = rw (sym e) x }

pub within_digits : (p : Parts) → AreWithinLimits p → AreDigits (digits p)
within_digits p w = digits-append p.int p.frac w.int_digits w.frac_digits

pub small_test : (n : ℕ) (r : Option ℕ) (b : Bool) → MatchOption r (999999999 < n) (λ m. (m ≡ n) × (m ≤ 999999999)) → b ≡ is_some r → (IsTrue b → n ≤ 999999999) × (n ≤ 999999999 → IsTrue b)
small_test n None b m s = ((λ t. absurd (false≢true (sym s ∙ t))), (λ w. absurd (omega arith)))
small_test n (Some k) b m s = let y = m.0 in let z = m.1 in ((λ t. omega arith), (λ w. s))

pub limits_test : (text : List ℕ) (p : Parts) (b : Bool) → HasParts text p → length text ≤ 256 → (IsTrue b → digits_value p.exponent ≤ 999999999) × (digits_value p.exponent ≤ 999999999 → IsTrue b) → (IsTrue b → IsWithinLimits text) × (IsWithinLimits text → IsTrue b)
limits_test text p b h l s =
    let x = exponent_size_is h in
    ((λ t. let y = s.0 t in record { bytes = l; exponent = omega arith }), (λ w. let y = w.exponent in s.1 (omega arith)))
