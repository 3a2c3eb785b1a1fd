-- A number text and its parts: the grammar gives each from the other, and the value of the text is that of its parts.
use Rattle.std.proofs.Common.{◌≡◌, ℕ, ◌+◌, Bool, true, false, List, [], ◌∷◌, ◌++◌, length, take, drop, inl, inr, ⊎_elim, refl, sym, ap, ap₂, ◌∙◌, arith, append_assoc, append-nil}
use Rattle.std.proofs.lemmas.List.{take_at, drop_at, drop_all, length_push}
use Rattle.std.proofs.lemmas.List.Elements.{filter-append}
use Rattle.std.proofs.lemmas.Bool.Decides.{nat_tests}
use Rattle.std.specs.Prelude.{filter}
use Rattle.std.specs.Char.{is_ascii_digit}
use Rattle.std.specs.List.{before_first, after_first, position_or_len}
use Rattle.decimal_order.specs.Number.{IsDigit, AreDigits, AreSomeDigits, Optional, IsMinus, IsSign, IsE, IsFrac, IsExp, IsNumber}
use Rattle.decimal_order.specs.Value.{is_e, is_decimal_point, is_negative, significand, exponent_part, fraction, exponent_size, digits_value, value}
use Rattle.std.specs.declared.cmp.Ordering.{Ordering}
use Rattle.decimal_order.specs.Order.{value_cmp, number_cmp}
use Rattle.decimal_order.specs.Parts.{Parts, HasParts, MinusIs, SignIs, FracIs, ExpIs, digits, parts_value}
use Rattle.decimal_order.proofs.Readings.{digit-true, e_tests, sign_is, minus_is, int_digits}

-- ---- parts to productions

minus_in : (bytes : List ℕ) (t : Bool) → MinusIs bytes t → Optional IsMinus bytes
minus_in bytes true h = inr h
minus_in bytes false h = inl h

sign_in : (bytes : List ℕ) (t : Bool) → SignIs bytes t → Optional IsSign bytes
sign_in bytes true h = inr (inl h)
sign_in bytes false h = ⊎_elim (λ e. inl e) (λ e. inr (inr e)) h

frac_in : (bytes ds : List ℕ) → FracIs bytes ds → Optional IsFrac bytes
frac_in bytes [] h = inl h
frac_in bytes (d ∷ ds) h = inr (rw h.1 (refl, h.0))

exp_in : (bytes : List ℕ) (t : Bool) (ds : List ℕ) → ExpIs bytes t ds → Optional IsExp bytes
exp_in bytes t [] h = inl h.0
exp_in bytes t (d ∷ ds) h = inr (record { e = h.0; sign = h.1; digits = d ∷ ds; is_e = h.2; is_sign = sign_in h.1 t h.3; are_digits = h.4; whole = h.5 })

pub number_of_parts : (text : List ℕ) (p : Parts) → HasParts text p → IsNumber text
number_of_parts text p h = record {
  minus = h.minus;
  int = p.int;
  frac = h.frac;
  exp = h.exp;
  is_minus = minus_in h.minus p.negative h.is_minus;
  is_int = h.is_int;
  is_frac = frac_in h.frac p.frac h.is_frac;
  is_exp = exp_in h.exp p.exponent_negative p.exponent h.is_exp;
  whole = h.whole;
}

-- ---- productions to parts

minus_out : (bytes : List ℕ) → Optional IsMinus bytes → (t : Bool) × MinusIs bytes t
minus_out bytes h = ⊎_elim (λ e. (false, e)) (λ e. (true, e)) h

sign_out : (bytes : List ℕ) → Optional IsSign bytes → (t : Bool) × SignIs bytes t
sign_out bytes h = ⊎_elim (λ e. (false, inl e)) (λ s. ⊎_elim (λ e. (true, e)) (λ e. (false, inr e)) s) h

some_frac : (bytes : List ℕ) → IsFrac bytes → (ds : List ℕ) × FracIs bytes ds
some_frac [] h = absurd h
some_frac (b ∷ []) h = absurd h.1
some_frac (b ∷ d ∷ ds) h = (d ∷ ds, (h.1, ap (λ x. x ∷ d ∷ ds) h.0))

frac_out : (bytes : List ℕ) → Optional IsFrac bytes → (ds : List ℕ) × FracIs bytes ds
frac_out bytes h = ⊎_elim (λ e. ([], e)) (λ f. some_frac bytes f) h

some_exp : (bytes : List ℕ) (e : ℕ) (sign ds : List ℕ) → IsE e → Optional IsSign sign → AreSomeDigits ds → bytes ≡ e ∷ (sign ++ ds) → (t : Bool) × (ds' : List ℕ) × ExpIs bytes t ds'
some_exp bytes e sign [] h s k w = absurd k
some_exp bytes e sign (d ∷ ds) h s k w = let o = sign_out sign s in (o.0, d ∷ ds, (e, sign, h, o.1, k, w))

exp_out : (bytes : List ℕ) → Optional IsExp bytes → (t : Bool) × (ds : List ℕ) × ExpIs bytes t ds
exp_out bytes h = ⊎_elim (λ e. (false, [], (e, refl))) (λ (x : IsExp bytes). some_exp bytes x.e x.sign x.digits x.is_e x.is_sign x.are_digits x.whole) h

pub parts_of_number : (text : List ℕ) → IsNumber text → (p : Parts) × HasParts text p
parts_of_number text n =
    let m = minus_out n.minus n.is_minus in
    let f = frac_out n.frac n.is_frac in
    let x = exp_out n.exp n.is_exp in (
      record { negative = m.0; int = n.int; frac = f.0; exponent_negative = x.0; exponent = x.1 },
      record { minus = n.minus; frac = n.frac; exp = n.exp; is_minus = m.1; is_int = n.is_int; is_frac = f.1; is_exp = x.2; whole = n.whole },
    )

pub no_number : (text : List ℕ) → ((p : Parts) → HasParts text p → ⊥) → IsNumber text → ⊥
no_number text h n = let p = parts_of_number text n in h p.0 p.1

-- ---- a text, cut at its first byte that passes a test

abbrev Fails : (ℕ → Bool) → List ℕ → Type 0
Fails t [] = Unit {0}
Fails t (x ∷ xs) = (t x ≡ false) × Fails t xs

abbrev Begins : (ℕ → Bool) → List ℕ → Type 0
Begins t [] = Unit {0}
Begins t (x ∷ xs) = t x ≡ true

abbrev tail : List ℕ → List ℕ
tail [] = []
tail (x ∷ xs) = xs

Fails-append : (t : ℕ → Bool) (xs ys : List ℕ) → Fails t xs → Fails t ys → Fails t (xs ++ ys)
Fails-append t [] ys h k = k
Fails-append t (x ∷ xs) ys h k = (h.0, Fails-append t xs ys h.1 k)

position_at : (t : ℕ → Bool) (xs ys : List ℕ) → Fails t xs → Begins t ys → position_or_len t (xs ++ ys) ≡ length xs
position_at t [] [] h k = refl
position_at t [] (y ∷ ys) h k = rw k refl
position_at t (x ∷ xs) ys h k = rw (h.0, position_at t xs ys h.1 k) (omega arith)

before_at : (t : ℕ → Bool) (xs ys : List ℕ) → Fails t xs → Begins t ys → before_first t (xs ++ ys) ≡ xs
before_at t xs ys h k = ap (λ n. take n (xs ++ ys)) (position_at t xs ys h k) ∙ take_at xs ys (length xs) refl

drop_past : (xs ys : List ℕ) → drop (length xs + 1) (xs ++ ys) ≡ tail ys
drop_past xs [] = ap (λ l. drop (length xs + 1) l) (append-nil xs) ∙ drop_all (length xs + 1) xs (omega arith)
drop_past xs (y ∷ ys) = ap (drop (length xs + 1)) (sym (append_assoc xs (y ∷ []) ys)) ∙ drop_at (xs ++ y ∷ []) ys (length xs + 1) (length_push xs y)

after_at : (t : ℕ → Bool) (xs ys : List ℕ) → Fails t xs → Begins t ys → after_first t (xs ++ ys) ≡ tail ys
after_at t xs ys h k = ap (λ n. drop (n + 1) (xs ++ ys)) (position_at t xs ys h k) ∙ drop_past xs ys

-- ---- what the parts hold

digit_no_e : (d : ℕ) → IsDigit d → is_e d ≡ false
digit_no_e d h = grind (arith, nat_tests)

digit_no_point : (d : ℕ) → IsDigit d → is_decimal_point d ≡ false
digit_no_point d h = grind (arith, nat_tests)

digits_no_e : (ds : List ℕ) → AreDigits ds → Fails is_e ds
digits_no_e [] h = tt
digits_no_e (d ∷ ds) h = (digit_no_e d h.0, digits_no_e ds h.1)

digits_no_point : (ds : List ℕ) → AreDigits ds → Fails is_decimal_point ds
digits_no_point [] h = tt
digits_no_point (d ∷ ds) h = (digit_no_point d h.0, digits_no_point ds h.1)

filter_digits : (ds : List ℕ) → AreDigits ds → filter is_ascii_digit ds ≡ ds
filter_digits [] h = refl
filter_digits (d ∷ ds) h = rw (digit-true d h.0) (ap (λ l. d ∷ l) (filter_digits ds h.1))

minus_no_e : (bytes : List ℕ) (t : Bool) → MinusIs bytes t → Fails is_e bytes
minus_no_e bytes true h = rw h (refl, tt)
minus_no_e bytes false h = rw h tt

minus_no_point : (bytes : List ℕ) (t : Bool) → MinusIs bytes t → Fails is_decimal_point bytes
minus_no_point bytes true h = rw h (refl, tt)
minus_no_point bytes false h = rw h tt

filter_minus : (bytes : List ℕ) (t : Bool) → MinusIs bytes t → filter is_ascii_digit bytes ≡ []
filter_minus bytes true h = rw h refl
filter_minus bytes false h = rw h refl

frac_no_e : (bytes ds : List ℕ) → FracIs bytes ds → Fails is_e bytes
frac_no_e bytes [] h = rw h tt
frac_no_e bytes (d ∷ ds) h = rw h.1 (refl, digits_no_e (d ∷ ds) h.0)

frac_begins : (bytes ds : List ℕ) → FracIs bytes ds → Begins is_decimal_point bytes
frac_begins bytes [] h = rw h tt
frac_begins bytes (d ∷ ds) h = rw h.1 refl

frac_tail : (bytes ds : List ℕ) → FracIs bytes ds → tail bytes ≡ ds
frac_tail bytes [] h = rw h refl
frac_tail bytes (d ∷ ds) h = rw h.1 refl

filter_frac : (bytes ds : List ℕ) → FracIs bytes ds → filter is_ascii_digit bytes ≡ ds
filter_frac bytes [] h = rw h refl
filter_frac bytes (d ∷ ds) h = rw h.1 (filter_digits (d ∷ ds) h.0)

exp_begins : (bytes : List ℕ) (t : Bool) (ds : List ℕ) → ExpIs bytes t ds → Begins is_e bytes
exp_begins bytes t [] h = rw h.0 tt
exp_begins bytes t (d ∷ ds) h = rw h.5 (e_tests h.0 h.2).0

filter_sign : (sign : List ℕ) (t : Bool) (ds : List ℕ) → SignIs sign t → AreDigits ds → filter is_ascii_digit (sign ++ ds) ≡ ds
filter_sign sign true ds h k = rw h (filter_digits ds k)
filter_sign sign false ds h k = ⊎_elim (λ e. rw e (filter_digits ds k)) (λ e. rw e (filter_digits ds k)) h

exp_negative : (bytes : List ℕ) (t : Bool) (ds : List ℕ) → ExpIs bytes t ds → is_negative (tail bytes) ≡ t
exp_negative bytes t [] h = rw (h.0, h.1) refl
exp_negative bytes t (d ∷ ds) h = rw h.5 (sign_is h.1 t d ds h.3 h.4.0).0

filter_exp : (bytes : List ℕ) (t : Bool) (ds : List ℕ) → ExpIs bytes t ds → filter is_ascii_digit (tail bytes) ≡ ds
filter_exp bytes t [] h = rw h.0 refl
filter_exp bytes t (d ∷ ds) h = rw h.5 (filter_sign h.1 t (d ∷ ds) h.3 h.4)

-- ---- the value

pub regroup : (a b c d : List ℕ) → a ++ (b ++ (c ++ d)) ≡ (a ++ (b ++ c)) ++ d
regroup a b c d = simp append_assoc

significand_no_e : {text : List ℕ} {p : Parts} (h : HasParts text p) → Fails is_e (h.minus ++ (p.int ++ h.frac))
significand_no_e {p = p} h = Fails-append is_e h.minus (p.int ++ h.frac) (minus_no_e h.minus p.negative h.is_minus) (Fails-append is_e p.int h.frac (digits_no_e p.int (int_digits p.int h.is_int)) (frac_no_e h.frac p.frac h.is_frac))

text_cut : {text : List ℕ} {p : Parts} (h : HasParts text p) → text ≡ (h.minus ++ (p.int ++ h.frac)) ++ h.exp
text_cut {p = p} h = h.whole ∙ regroup h.minus p.int h.frac h.exp

significand_is : {text : List ℕ} {p : Parts} (h : HasParts text p) → significand text ≡ h.minus ++ (p.int ++ h.frac)
significand_is {p = p} h = ap significand (text_cut h) ∙ before_at is_e (h.minus ++ (p.int ++ h.frac)) h.exp (significand_no_e h) (exp_begins h.exp p.exponent_negative p.exponent h.is_exp)

exponent_part_is : {text : List ℕ} {p : Parts} (h : HasParts text p) → exponent_part text ≡ tail h.exp
exponent_part_is {p = p} h = ap exponent_part (text_cut h) ∙ after_at is_e (h.minus ++ (p.int ++ h.frac)) h.exp (significand_no_e h) (exp_begins h.exp p.exponent_negative p.exponent h.is_exp)

significand_digits : {text : List ℕ} {p : Parts} (h : HasParts text p) → filter is_ascii_digit (significand text) ≡ digits p
significand_digits {p = p} h =
    ap (filter is_ascii_digit) (significand_is h) ∙ filter-append is_ascii_digit h.minus (p.int ++ h.frac)
    ∙ ap (λ l. l ++ filter is_ascii_digit (p.int ++ h.frac)) (filter_minus h.minus p.negative h.is_minus)
    ∙ filter-append is_ascii_digit p.int h.frac
    ∙ ap (λ l. l ++ filter is_ascii_digit h.frac) (filter_digits p.int (int_digits p.int h.is_int))
    ∙ ap (λ l. p.int ++ l) (filter_frac h.frac p.frac h.is_frac)

fraction_is : {text : List ℕ} {p : Parts} (h : HasParts text p) → fraction text ≡ p.frac
fraction_is {p = p} h =
    ap (after_first is_decimal_point) (significand_is h ∙ sym (append_assoc h.minus p.int h.frac))
    ∙ after_at is_decimal_point (h.minus ++ p.int) h.frac (Fails-append is_decimal_point h.minus p.int (minus_no_point h.minus p.negative h.is_minus) (digits_no_point p.int (int_digits p.int h.is_int))) (frac_begins h.frac p.frac h.is_frac)
    ∙ frac_tail h.frac p.frac h.is_frac

negative_is : {text : List ℕ} {p : Parts} (h : HasParts text p) → is_negative text ≡ p.negative
negative_is {p = p} h = ap is_negative h.whole ∙ (minus_is h.minus p.negative p.int (h.frac ++ h.exp) h.is_minus h.is_int).0

exponent_negative_is : {text : List ℕ} {p : Parts} (h : HasParts text p) → is_negative (exponent_part text) ≡ p.exponent_negative
exponent_negative_is {p = p} h = ap is_negative (exponent_part_is h) ∙ exp_negative h.exp p.exponent_negative p.exponent h.is_exp

pub exponent_size_is : {text : List ℕ} {p : Parts} → HasParts text p → exponent_size text ≡ digits_value p.exponent
unfolding exponent_size
exponent_size_is {p = p} h = ap (λ l. digits_value (filter is_ascii_digit l)) (exponent_part_is h) ∙ ap digits_value (filter_exp h.exp p.exponent_negative p.exponent h.is_exp)

pub value_is : {text : List ℕ} {p : Parts} → HasParts text p → value text ≡ parts_value p
unfolding value
value_is h = rw (negative_is h, significand_digits h, exponent_negative_is h, exponent_size_is h, fraction_is h) refl

pub number_cmp_is : (a b : List ℕ) (p q : Parts) (o : Ordering) → HasParts a p → HasParts b q → o ≡ value_cmp (parts_value p) (parts_value q) → o ≡ number_cmp a b
unfolding number_cmp
number_cmp_is a b p q o h k e = e ∙ sym (ap₂ value_cmp (value_is h) (value_is k))
