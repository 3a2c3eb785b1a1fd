-- The decimal text of a whole number, as a number.
use Rattle.std.proofs.Common.{ℕ, zero, suc, ◌^◌, ◌<◌, false, List, [], ◌∷◌, get_or, inl, inr, refl, sym, ◌∙◌, arith, append-nil}
use Rattle.std.proofs.lemmas.Fmt.{decimal_digit, first_decimal, digits_decimal, digits_value-decimal, length-decimal-le}
use Rattle.std.proofs.lemmas.Str.Parse.{IsNumeralModel, numerals_by_weight}
use Rattle.std.specs.Fmt.{decimal}
use Rattle.decimal_order.specs.Number.{AreDigits, IsInt}
use Rattle.decimal_order.specs.Value.{digits_value}
use Rattle.decimal_order.specs.Parts.{HasParts}
use Rattle.decimal_order.specs.Laws.{WritesWholeNumbers}
use Rattle.decimal_order.proofs.Texts.{number_of_parts, value_is, exponent_size_is}
use Rattle.decimal_order.proofs.WholeNumbers.{plain}

numerals : IsNumeralModel AreDigits digits_value
numerals = numerals_by_weight AreDigits (record { empty = tt; parts = (λ c cs d. (d.0, d.1)); more = (λ c cs k d. (k, d)) }) digits_value (record { empty = refl; more = (λ c cs k. refl) })

int_from : (ds : List ℕ) → AreDigits ds → 48 < get_or ds 0 0 → IsInt ds
int_from [] h l = absurd (omega arith)
int_from (d ∷ ds) h l = inr (omega arith, h.0.1, h.1)

is_int : (n : ℕ) → n < 2 ^ 64 → IsInt (decimal n)
is_int zero h = rw (decimal_digit 0 (omega arith)) (inl (refl, refl))
is_int (suc n) h = int_from (decimal (suc n)) (digits_decimal numerals (suc n) h) (first_decimal (suc n) (omega arith) h)

plain_text : (ds : List ℕ) → IsInt ds → HasParts ds (plain false ds)
plain_text ds h = record { minus = []; frac = []; exp = []; is_minus = refl; is_int = h; is_frac = refl; is_exp = (refl, refl); whole = sym (append-nil ds) }

pub writes_whole_numbers : WritesWholeNumbers
writes_whole_numbers n h =
    let ds = decimal n in
    let p = plain_text ds (is_int n h) in
    let l = length-decimal-le 20 n (omega arith) (omega arith) h in
    let e = exponent_size_is p in
    let v = digits_value-decimal numerals n h in
    (number_of_parts ds (plain false ds) p, record { bytes = omega arith; exponent = omega arith }, value_is p ∙ rw (append-nil ds, v) refl)
