-- Integers and numbers that are spelled are read again.
use Rattle.std.proofs.Common.{◌≡◌, ℕ, Bool, true, false, cond, ◌||◌, ◌==◌, [], ◌∷◌, ◌++◌, Option, Some, None, refl, ap, ◌∙◌, append_assoc, arith}
use Rattle.std.proofs.lemmas.Bool.{and_parts}
use Rattle.std.proofs.lemmas.Bool.Decides.{nat_tests}
use Rattle.std.specs.List.{list_all}
use Rattle.path_grammar.specs.Characters.{Text, is_blank, is_digit, is_between, Blanks}
use Rattle.path_grammar.specs.Numbers.{Int, zero_int, plain_int, minus_int, Positive, decimal, Digits, Whole, integer, minus_zero, Fraction, no_fraction, fraction, Sign, no_sign, plus_sign, minus_sign, Exponent, no_exponent, exponent, is_e, Number, number}
use Rattle.path_grammar.specs.Grammar.{Bound, no_bound, bound}
use Rattle.path_grammar.specs.Reading.{front_run, after_run, behind}
use Rattle.path_grammar.specs.ReadingNumbers.{signed_literal, digits_at, int_at, begins_int, part_at, digits_end, minus_zero_end, whole_from, whole_end, fraction_from, fraction_end, sign_end, exponent_end, number_end}
use Rattle.path_grammar.specs.declared.ast.IntLit.{IntLit}
use Rattle.path_grammar.proofs.Read.{found}
use Rattle.path_grammar.proofs.Again.{Stops, Starts, front_again, after_again, starts_stops, stops_at, starts_wider, append_starts, blanks_stop, blanks_joined, behind_same, behind_other, stops_behind, stops_narrower}

zero_digit : (c : ℕ) → is_between 0x31 0x39 c ≡ true → (c == 0x30) ≡ false
zero_digit c e = grind (arith, nat_tests)

minus_digit : (c : ℕ) → is_between 0x31 0x39 c ≡ true → (c == 0x2D) ≡ false
minus_digit c e = grind (arith, nat_tests)

positive_digit : (c : ℕ) → is_between 0x31 0x39 c ≡ true → is_digit c ≡ true
positive_digit c e = grind (arith, nat_tests)

pub no_digit : (c : ℕ) → is_blank c ≡ true → is_digit c ≡ false
no_digit c e = grind (arith, nat_tests)

one_test : {A : Type 0} (b : Bool) (x z : A) → b ≡ true → cond b x z ≡ x
one_test true x z k = refl
one_test false x z k = absurd cc

ap2 : {A B C : Type 0} (f : A → B → C) {a b : A} {x y : B} → a ≡ b → x ≡ y → f a x ≡ f b y
ap2 f {a} {b} {x} {y} p q = ap (λ u. f u x) p ∙ ap (λ v. f b v) q

pub digits_again : (is_negative : Bool) (t rest : Text) → Positive t → Stops is_digit rest → digits_at is_negative (t ++ rest) ≡ found (signed_literal is_negative (decimal t)) rest
unfolding digits_at
digits_again is_negative [] rest h s = absurd cc
digits_again is_negative (c ∷ cs) rest h s =
    let k = and_parts (is_between 0x31 0x39 c) (list_all is_digit cs) h in
    let m : list_all is_digit (c ∷ cs) ≡ true = rw (positive_digit c k.0, k.1) refl in
    let f : front_run is_digit (c ∷ cs ++ rest) ≡ c ∷ cs = front_again is_digit (c ∷ cs) rest m s in
    let a : after_run is_digit (c ∷ cs ++ rest) ≡ rest = after_again is_digit (c ∷ cs) rest m s in
    one_test (is_between 0x31 0x39 c) _ _ (k.0) ∙ ap2 (λ u v. found (signed_literal is_negative (decimal u)) v) f a

pub positive_starts : (t : Text) → Positive t → Starts (is_between 0x31 0x39) t
positive_starts [] h = absurd cc
positive_starts (c ∷ cs) h = record { head = c; tail = cs; is = refl; passes = (and_parts (is_between 0x31 0x39 c) (list_all is_digit cs) h).0 }

-- an integer that does not begin with 0 or a sign
plain_again : (t rest : Text) (i : IntLit) → Starts (is_between 0x31 0x39) t → digits_at false (t ++ rest) ≡ found i rest → int_at (t ++ rest) ≡ found i rest
unfolding int_at
plain_again t rest i s e =
    let k : t ++ rest ≡ s.head ∷ s.tail ++ rest = rw s.is refl in
    let d : digits_at false (s.head ∷ s.tail ++ rest) ≡ found i rest = rw k at e in
    rw (k, zero_digit s.head s.passes, minus_digit s.head s.passes) d

pub int_again : (t rest : Text) (i : IntLit) → Int t i → Stops is_digit rest → int_at (t ++ rest) ≡ found i rest
unfolding int_at
int_again _ rest _ zero_int s = refl
int_again t rest _ (plain_int p) s = plain_again t rest _ (positive_starts t p) (digits_again false t rest p s)
int_again _ rest _ (minus_int {ds} p) s = digits_again true ds rest p s

int_digit : (c : ℕ) → is_between 0x31 0x39 c ≡ true → begins_int c ≡ true
int_digit c e = grind (arith, nat_tests)

pub blank_int : (c : ℕ) → begins_int c ≡ true → is_blank c ≡ false
blank_int c e = grind (arith, nat_tests)

pub int_starts : (t : Text) (i : IntLit) → Int t i → Starts begins_int t
int_starts _ _ zero_int = record { head = 0x30; tail = []; is = refl; passes = refl }
int_starts t _ (plain_int p) = starts_wider (is_between 0x31 0x39) begins_int t int_digit (positive_starts t p)
int_starts _ _ (minus_int {ds} p) = record { head = 0x2D; tail = ds; is = refl; passes = refl }

-- ---- parts of a slice

-- what may follow a part
abbrev pub ends_part : ℕ → Bool
ends_part c = c == 0x3A || c == 0x2C || c == 0x5D

pub blank_end : (c : ℕ) → ends_part c ≡ true → is_blank c ≡ false
blank_end c e = grind (arith, nat_tests)

digit_end : (c : ℕ) → ends_part c ≡ true → is_digit c ≡ false
digit_end c e = grind (arith, nat_tests)

int_end : (c : ℕ) → ends_part c ≡ true → begins_int c ≡ false
int_end c e = grind (arith, nat_tests)

part_from : (t u rest : Text) (i : IntLit) → Starts begins_int t → int_at t ≡ found i u → after_run is_blank u ≡ rest → part_at t ≡ found (Some i) rest
unfolding part_at
part_from t u rest i s e a =
    let d : int_at (s.head ∷ s.tail) ≡ found i u = rw s.is at e in
    rw (s.is, s.passes, d, a) refl

-- an integer and blanks
pub int_part : (t c rest : Text) (i : IntLit) → Int t i → Blanks c → Starts ends_part rest → part_at (t ++ (c ++ rest)) ≡ found (Some i) rest
int_part t c rest i p hc s =
    part_from (t ++ (c ++ rest)) (c ++ rest) rest i (append_starts begins_int t (c ++ rest) (int_starts t i p))
    (int_again t (c ++ rest) i p (blanks_stop is_digit c rest no_digit hc (stops_at ends_part is_digit rest digit_end s)))
    (after_again is_blank c rest hc (stops_at ends_part is_blank rest blank_end s))

pub no_part : (rest : Text) → Starts ends_part rest → part_at rest ≡ found None rest
unfolding part_at
no_part rest s = rw (s.is, int_end s.head s.passes) refl

pub bound_again : (u rest : Text) (o : Option IntLit) → Bound u o → Starts ends_part rest → part_at (u ++ rest) ≡ found o rest
bound_again _ rest _ no_bound s = no_part rest s
bound_again _ rest _ (bound {t} {i} b p hb) s = rw (append_assoc t b rest) (int_part t b rest i p hb s)

-- with blanks on both sides
pub bound_between : (b u c rest : Text) (o : Option IntLit) → Blanks b → Bound u o → Blanks c → Starts ends_part rest → part_at (after_run is_blank (b ++ (u ++ (c ++ rest)))) ≡ found o rest
bound_between b _ c rest _ hb no_bound hc s =
    let a : after_run is_blank (b ++ (c ++ rest)) ≡ rest = rw (← append_assoc b c rest) (after_again is_blank (b ++ c) rest (blanks_joined b c hb hc) (stops_at ends_part is_blank rest blank_end s)) in
    rw a (no_part rest s)
bound_between b _ c rest _ hb (bound {t} {i} d p hd) hc s =
    let e : (t ++ d) ++ (c ++ rest) ≡ t ++ ((d ++ c) ++ rest) = simp append_assoc in
    let a : after_run is_blank (b ++ (t ++ ((d ++ c) ++ rest))) ≡ t ++ ((d ++ c) ++ rest) = after_again is_blank b (t ++ ((d ++ c) ++ rest)) hb (starts_stops begins_int is_blank t ((d ++ c) ++ rest) blank_int (int_starts t i p)) in
    rw (e, a) (int_part t (d ++ c) rest i p (blanks_joined d c hd hc) s)

-- ---- numbers

digits_end_again : (t rest : Text) → Digits t → Stops is_digit rest → digits_end (t ++ rest) ≡ Some rest
unfolding digits_end
digits_end_again [] rest h s = absurd cc
digits_end_again (c ∷ cs) rest h s =
    let k = and_parts (is_digit c) (list_all is_digit cs) h in
    let m : list_all is_digit (c ∷ cs) ≡ true = rw (k.0, k.1) refl in
    let a : after_run is_digit (c ∷ cs ++ rest) ≡ rest = after_again is_digit (c ∷ cs) rest m s in
    one_test (is_digit c) _ _ (k.0) ∙ ap (λ (v : Text). Some v) a

-- an integer is no minus and 0
zero_behind : (ds rest : Text) → Positive ds → behind 0x30 (ds ++ rest) ≡ None
zero_behind [] rest h = absurd cc
zero_behind (d ∷ ds) rest h = behind_other 0x30 d (ds ++ rest) (zero_digit d (and_parts (is_between 0x31 0x39 d) (list_all is_digit ds) h).0)

minus_behind : (ds rest : Text) → Positive ds → behind 0x2D (ds ++ rest) ≡ None
minus_behind [] rest h = absurd cc
minus_behind (d ∷ ds) rest h = behind_other 0x2D d (ds ++ rest) (minus_digit d (and_parts (is_between 0x31 0x39 d) (list_all is_digit ds) h).0)

no_minus_zero : (t rest : Text) (i : IntLit) → Int t i → minus_zero_end (t ++ rest) ≡ None
unfolding minus_zero_end
no_minus_zero _ rest _ zero_int = rw (behind_other 0x2D 0x30 rest refl) refl
no_minus_zero t rest _ (plain_int p) = rw (minus_behind t rest p) refl
no_minus_zero _ rest _ (minus_int {ds} p) = rw (behind_same 0x2D (ds ++ rest) refl, zero_behind ds rest p) refl

zero_minus : (rest : Text) → minus_zero_end (0x2D ∷ 0x30 ∷ rest) ≡ Some rest
unfolding minus_zero_end
zero_minus rest = rw (behind_same 0x2D (0x30 ∷ rest) refl, behind_same 0x30 rest refl) refl

whole_end_again : (t rest : Text) → Whole t → Stops is_digit rest → whole_end (t ++ rest) ≡ Some rest
unfolding whole_end whole_from
whole_end_again t rest (integer {i = i} p) s = rw (no_minus_zero t rest i p, int_again t rest i p s) refl
whole_end_again _ rest minus_zero s = rw (zero_minus rest) refl

fraction_end_again : (t rest : Text) → Fraction t → Stops is_digit rest → Stops (λ c. c == 0x2E) rest → fraction_end (t ++ rest) ≡ Some rest
unfolding fraction_end fraction_from
fraction_end_again _ rest no_fraction s p = rw (stops_behind 0x2E rest p) refl
fraction_end_again _ rest (fraction {ds} h) s p = rw (behind_same 0x2E (ds ++ rest) refl, digits_end_again ds rest h s) refl

digits_start : (t : Text) → Digits t → Starts is_digit t
digits_start [] h = absurd cc
digits_start (c ∷ cs) h = record { head = c; tail = cs; is = refl; passes = (and_parts (is_digit c) (list_all is_digit cs) h).0 }

no_sign_digit : (c : ℕ) → is_digit c ≡ true → (c == 0x2B || c == 0x2D) ≡ false
no_sign_digit c e = grind (arith, nat_tests)

sign_end_again : (s u : Text) → Sign s → Starts is_digit u → sign_end (s ++ u) ≡ u
unfolding sign_end
sign_end_again _ u no_sign d = rw (d.is, no_sign_digit d.head d.passes) refl
sign_end_again _ u plus_sign d = refl
sign_end_again _ u minus_sign d = refl

no_exponent_at : (rest : Text) → Stops is_e rest → exponent_end rest ≡ Some rest
unfolding exponent_end
no_exponent_at [] s = refl
no_exponent_at (c ∷ t) s = rw s refl

exponent_end_again : (t rest : Text) → Exponent t → Stops is_digit rest → Stops is_e rest → exponent_end (t ++ rest) ≡ Some rest
unfolding exponent_end
exponent_end_again _ rest no_exponent s k = no_exponent_at rest k
exponent_end_again _ rest (exponent {e} {s} ds h g d) p k =
    rw (append_assoc s ds rest, h, sign_end_again s (ds ++ rest) g (append_starts is_digit ds rest (digits_start ds d))) (digits_end_again ds rest d p)

exponent_stops : (q : ℕ → Bool) (t rest : Text) → ((c : ℕ) → is_e c ≡ true → q c ≡ false) → Exponent t → Stops q rest → Stops q (t ++ rest)
exponent_stops q _ rest h no_exponent s = s
exponent_stops q _ rest h (exponent {e} ds k g d) s = h e k

fraction_stops : (q : ℕ → Bool) (t rest : Text) → q 0x2E ≡ false → Fraction t → Stops q rest → Stops q (t ++ rest)
fraction_stops q _ rest h no_fraction s = s
fraction_stops q _ rest h (fraction d) s = h

-- what a number could go on with
abbrev pub in_number : ℕ → Bool
in_number c = is_digit c || c == 0x2E || is_e c

digit_in : (c : ℕ) → in_number c ≡ false → is_digit c ≡ false
digit_in c e = grind (arith, nat_tests)

point_in : (c : ℕ) → in_number c ≡ false → (c == 0x2E) ≡ false
point_in c e = grind (arith, nat_tests)

e_in : (c : ℕ) → in_number c ≡ false → is_e c ≡ false
e_in c e = grind (arith, nat_tests)

e_digit : (c : ℕ) → is_e c ≡ true → is_digit c ≡ false
e_digit c e = grind (arith, nat_tests)

e_point : (c : ℕ) → is_e c ≡ true → (c == 0x2E) ≡ false
e_point c e = grind (arith, nat_tests)

number_from : (i f e rest : Text) → Whole i → Fraction f → Exponent e → Stops in_number rest → number_end (i ++ (f ++ (e ++ rest))) ≡ Some rest
unfolding number_end
number_from i f e rest p q r s =
    let digits = stops_narrower in_number is_digit rest digit_in s in
    let points = stops_narrower in_number (λ c. c == 0x2E) rest point_in s in
    let after = exponent_stops is_digit e rest e_digit r digits in
    rw (
      whole_end_again i (f ++ (e ++ rest)) p (fraction_stops is_digit f (e ++ rest) refl q after),
      fraction_end_again f (e ++ rest) q after (exponent_stops (λ c. c == 0x2E) e rest e_point r points),
      exponent_end_again e rest r digits (stops_narrower in_number is_e rest e_in s),
    ) refl

pub number_end_again : (t rest : Text) → Number t → Stops in_number rest → number_end (t ++ rest) ≡ Some rest
number_end_again _ rest (number {i} {f} {e} p q r) s =
    let k : (i ++ (f ++ e)) ++ rest ≡ i ++ (f ++ (e ++ rest)) = simp append_assoc in
    rw k (number_from i f e rest p q r s)

whole_starts : (t : Text) → Whole t → Starts begins_int t
whole_starts t (integer {i = i} p) = int_starts t i p
whole_starts _ minus_zero = record { head = 0x2D; tail = 0x30 ∷ []; is = refl; passes = refl }

pub number_starts : (t : Text) → Number t → Starts begins_int t
number_starts _ (number {i} {f} {e} p q r) = append_starts begins_int i (f ++ e) (whole_starts i p)
