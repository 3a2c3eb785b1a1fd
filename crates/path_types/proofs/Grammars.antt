-- The numbers of a query's literals and those of a JSON text: two grammars of one language.
use Rattle.std.proofs.Common.{◌≡◌, ℕ, ◌≤◌, true, List, [], ◌∷◌, ◌++◌, inl, inr, ⊎_elim, refl, ap, ◌∙◌, arith, append_assoc, nat_le}
use Rattle.std.proofs.lemmas.Bool.{and_parts, leb-true, le-leb}
use Rattle.std.proofs.lemmas.Bool.Decides.{nat_tests}
use Rattle.std.specs.List.{list_all}
use Rattle.decimal_order.specs.Number.{IsDigit, AreDigits, AreSomeDigits, Optional, IsMinus, IsSign, IsE, IsInt, IsFrac, IsExp, IsNumber}
use Rattle.path_grammar.specs.Characters.{is_between, is_digit}
use Rattle.path_grammar.specs.Numbers.{Positive, Int, zero_int, plain_int, minus_int, Digits, Whole, integer, minus_zero, Fraction, no_fraction, fraction, Sign, no_sign, plus_sign, minus_sign, is_e, Exponent, no_exponent, exponent, Number, number}
use Rattle.path_grammar.specs.declared.ast.IntLit.{IntLit}
use Rattle.path_types.specs.Numbers.{HaveOneGrammar}

-- ---- Digits

digit_is : (c : ℕ) → is_digit c ≡ true → IsDigit c
digit_is c h = let k = and_parts (nat_le 0x30 c) (nat_le c 0x39) h in (leb-true 0x30 c k.0, leb-true c 0x39 k.1)

is_digit_of : (c : ℕ) → IsDigit c → is_digit c ≡ true
is_digit_of c h = rw (le-leb 0x30 c h.0, le-leb c 0x39 h.1) refl

digits_are : (ds : List ℕ) → list_all is_digit ds ≡ true → AreDigits ds
digits_are [] h = tt
digits_are (d ∷ ds) h = let k = and_parts (is_digit d) (list_all is_digit ds) h in (digit_is d k.0, digits_are ds k.1)

all_digits : (ds : List ℕ) → AreDigits ds → list_all is_digit ds ≡ true
all_digits [] h = refl
all_digits (d ∷ ds) h = rw (is_digit_of d h.0, all_digits ds h.1) refl

some_digits_are : (ds : List ℕ) → Digits ds → AreSomeDigits ds
some_digits_are [] h = absurd cc
some_digits_are (d ∷ ds) h = digits_are (d ∷ ds) h

some_digits_of : (ds : List ℕ) → AreSomeDigits ds → Digits ds
some_digits_of [] h = absurd h
some_digits_of (d ∷ ds) h = all_digits (d ∷ ds) h

positive_is : (ds : List ℕ) → Positive ds → IsInt ds
positive_is [] h = absurd cc
positive_is (d ∷ ds) h =
    let k = and_parts (is_between 0x31 0x39 d) (list_all is_digit ds) h in
    let m = and_parts (nat_le 0x31 d) (nat_le d 0x39) k.0 in
    inr (leb-true 0x31 d m.0, leb-true d 0x39 m.1, digits_are ds k.1)

-- ---- A literal's number is one of a text

record Front (t : List ℕ) : Type 0 where
  minus : List ℕ
  int : List ℕ
  is_minus : Optional IsMinus minus
  is_int : IsInt int
  whole : t ≡ minus ++ int

int_front : (t : List ℕ) (i : IntLit) → Int t i → Front t
int_front _ _ zero_int = record { minus = []; int = 0x30 ∷ []; is_minus = inl refl; is_int = inl (refl, refl); whole = refl }
int_front t _ (plain_int h) = record { minus = []; int = t; is_minus = inl refl; is_int = positive_is t h; whole = refl }
int_front _ _ (minus_int {ds} h) = record { minus = 0x2D ∷ []; int = ds; is_minus = inr refl; is_int = positive_is ds h; whole = refl }

front : (t : List ℕ) → Whole t → Front t
front t (integer {i = i} h) = int_front t i h
front _ minus_zero = record { minus = 0x2D ∷ []; int = 0x30 ∷ []; is_minus = inr refl; is_int = inl (refl, refl); whole = refl }

frac_is : (t : List ℕ) → Fraction t → Optional IsFrac t
frac_is _ no_fraction = inl refl
frac_is _ (fraction {ds} h) = inr (refl, some_digits_are ds h)

sign_is : (t : List ℕ) → Sign t → Optional IsSign t
sign_is _ no_sign = inl refl
sign_is _ plus_sign = inr (inr refl)
sign_is _ minus_sign = inr (inl refl)

e_is : (c : ℕ) → is_e c ≡ true → IsE c
e_is c h = grind (arith, nat_tests)

exp_is : (t : List ℕ) → Exponent t → Optional IsExp t
exp_is _ no_exponent = inl refl
exp_is _ (exponent {e} {s} ds h sign digits) =
    inr (record { e = e; sign = s; digits = ds; is_e = e_is e h; is_sign = sign_is s sign; are_digits = some_digits_are ds digits; whole = refl })

is_number : (text : List ℕ) → Number text → IsNumber text
is_number _ (number {i} {f} {e} w frac exp) =
    let g = front i w in
    record {
      minus = g.minus;
      int = g.int;
      frac = f;
      exp = e;
      is_minus = g.is_minus;
      is_int = g.is_int;
      is_frac = frac_is f frac;
      is_exp = exp_is e exp;
      whole = ap (λ x. x ++ (f ++ e)) g.whole ∙ append_assoc g.minus g.int (f ++ e);
    }

-- ---- A text's number is one of a literal

positive_of : (d : ℕ) (ds : List ℕ) → 0x31 ≤ d → d ≤ 0x39 → AreDigits ds → Positive (d ∷ ds)
positive_of d ds low high h = rw (le-leb 0x31 d low, le-leb d 0x39 high, all_digits ds h) refl

plain_whole : (t : List ℕ) → IsInt t → Whole t
plain_whole [] h = absurd h
plain_whole (d ∷ ds) h = ⊎_elim (λ z. rw (z.0, z.1) (integer zero_int)) (λ p. integer (plain_int (positive_of d ds p.0 p.1 p.2))) h

minus_whole : (t : List ℕ) → IsInt t → Whole (0x2D ∷ t)
minus_whole [] h = absurd h
minus_whole (d ∷ ds) h = ⊎_elim (λ z. rw (z.0, z.1) minus_zero) (λ p. integer (minus_int (positive_of d ds p.0 p.1 p.2))) h

whole_of : (minus int : List ℕ) → Optional IsMinus minus → IsInt int → Whole (minus ++ int)
whole_of minus int m h = ⊎_elim (λ e. rw e (plain_whole int h)) (λ e. rw e (minus_whole int h)) m

some_frac : (t : List ℕ) → IsFrac t → Fraction t
some_frac [] h = absurd h
some_frac (b ∷ ds) h = rw h.0 (fraction (some_digits_of ds h.1))

frac_of : (t : List ℕ) → Optional IsFrac t → Fraction t
frac_of t h = ⊎_elim (λ e. rw e no_fraction) (λ f. some_frac t f) h

sign_of : (t : List ℕ) → Optional IsSign t → Sign t
sign_of t h = ⊎_elim (λ e. rw e no_sign) (λ s. ⊎_elim (λ e. rw e minus_sign) (λ e. rw e plus_sign) s) h

e_of : (c : ℕ) → IsE c → is_e c ≡ true
e_of c h = ⊎_elim (λ e. rw e refl) (λ e. rw e refl) h

exp_of : (t : List ℕ) → Optional IsExp t → Exponent t
exp_of t h = ⊎_elim (λ e. rw e no_exponent) (λ x. rw x.whole (exponent x.digits (e_of x.e x.is_e) (sign_of x.sign x.is_sign) (some_digits_of x.digits x.are_digits))) h

is_literal : (text : List ℕ) → IsNumber text → Number text
is_literal text n =
    rw (n.whole, ← append_assoc n.minus n.int (n.frac ++ n.exp))
    (number (whole_of n.minus n.int n.is_minus n.is_int) (frac_of n.frac n.is_frac) (exp_of n.exp n.is_exp))

pub one_grammar : HaveOneGrammar
one_grammar text = (is_number text, is_literal text)
