-- Integers and numbers that are read are spelled so.
use Rattle.std.proofs.Common.{◌≡◌, ℕ, ◌-◌, ◌≤◌, Bool, true, false, cond, ◌||◌, ◌==◌, [], ◌∷◌, ◌++◌, take, length, length-append, Option, Some, None, refl, sym, ap, subst, ◌∙◌, append_assoc, arith, inl, inr, pos}
use Rattle.std.proofs.Math.Seq.{take-append_seam}
use Rattle.std.proofs.lemmas.Bool.{eqb-true, and_parts}
use Rattle.std.proofs.lemmas.Bool.Decides.{nat_tests}
use Rattle.std.proofs.lemmas.List.Folds.{list_all-append}
use Rattle.std.specs.List.{list_all}
use Rattle.path_grammar.specs.Characters.{Text, is_ascii, is_digit, is_between}
use Rattle.path_grammar.specs.Numbers.{Int, zero_int, plain_int, minus_int, Positive, decimal, Digits, Whole, integer, minus_zero, Fraction, no_fraction, fraction, Sign, no_sign, plus_sign, minus_sign, Exponent, no_exponent, exponent, is_e, Number, number}
use Rattle.path_grammar.specs.Grammar.{Bound, no_bound, bound}
use Rattle.path_grammar.specs.Reading.{◌>>=◌, front_run, after_run, behind}
use Rattle.path_grammar.specs.ReadingNumbers.{signed_literal, digits_at, int_at, begins_int, part_at, digits_end, minus_zero_end, whole_from, whole_end, fraction_from, fraction_end, sign_end, exponent_end, number_end, before}
use Rattle.path_grammar.specs.declared.ast.IntLit.{IntLit}
use Rattle.path_grammar.specs.declared.ast.IntLit.TheVariants.{Within}
use Rattle.path_grammar.proofs.Read.{found, same_pair, some_is, bind_some, chosen, guarded, picked, behind_reads, Reads, ReadsOne, Trailed, run_parts, run_passes, reads_one, reads_trimmed}

is_positive : (c : ℕ) (t : Text) → is_between 0x31 0x39 c ≡ true → is_digit c ≡ true → Positive (front_run is_digit (c ∷ t))
is_positive c t e f = rw (f, e, run_passes is_digit t) refl

positive_digit : (c : ℕ) → is_between 0x31 0x39 c ≡ true → is_digit c ≡ true
positive_digit c e = grind (arith, nat_tests)

-- digits behind a sign that was read
digits_read : (is_negative : Bool) (t rest : Text) (i : IntLit) → digits_at is_negative t ≡ found i rest → Reads (λ u j. Positive u × (signed_literal is_negative (decimal u) ≡ j)) t i rest
unfolding digits_at
digits_read is_negative [] rest i e = absurd cc
digits_read is_negative (c ∷ t) rest i e =
    let run = front_run is_digit (c ∷ t) in
    let g = guarded (is_between 0x31 0x39 c) (found (signed_literal is_negative (decimal run)) (after_run is_digit (c ∷ t))) (i, rest) e in
    let p = same_pair (signed_literal is_negative (decimal run)) i (after_run is_digit (c ∷ t)) rest g.1 in
    record { front = run; parts = run_parts is_digit (c ∷ t) ∙ ap (λ (u : Text). run ++ u) p.1; is = (is_positive c t g.0 (positive_digit c g.0), p.0) }

reads_plain : (t rest : Text) (i : IntLit) → digits_at false t ≡ found i rest → Reads Int t i rest
reads_plain t rest i e =
    let d = digits_read false t rest i e in
    record { front = d.front; parts = d.parts; is = subst (λ (j : IntLit). Int d.front j) d.is.1 (plain_int d.is.0) }

reads_minus : (c : ℕ) (t rest : Text) (i : IntLit) → c ≡ 0x2D → digits_at true t ≡ found i rest → Reads Int (c ∷ t) i rest
reads_minus c t rest i k e =
    let d = digits_read true t rest i e in
    record { front = 0x2D ∷ d.front; parts = rw k (ap (λ (u : Text). 0x2D ∷ u) d.parts); is = subst (λ (j : IntLit). Int (0x2D ∷ d.front) j) d.is.1 (minus_int d.is.0) }

pub int_reads : ReadsOne int_at Int
unfolding int_at
int_reads [] rest i e = absurd cc
int_reads (c ∷ t) rest i e = elim (picked (c == 0x30) _ _ _ _ _ e) [
  | inl h ↦ reads_one Int c 0x30 t rest (Within (pos 0)) i (eqb-true c 0x30 h.0) h.1.0 h.1.1 zero_int
  | inr h ↦ elim (chosen (c == 0x2D) _ _ _ h.1) [
    | inl k ↦ reads_minus c t rest i (eqb-true c 0x2D k.0) k.1
    | inr k ↦ reads_plain (c ∷ t) rest i k.1
  ]
]

-- ---- parts of a slice

no_part : (t rest : Text) (o : Option IntLit) → found None t ≡ found o rest → Reads Bound t o rest
no_part t rest o e =
    let p = same_pair None o t rest e in
    record { front = []; parts = p.1; is = subst (λ (x : Option IntLit). Bound [] x) p.0 no_bound }

bounded : (t rest : Text) (o : Option IntLit) → Reads (Trailed (λ u (x : Option IntLit). (i : IntLit) × (x ≡ Some i) × Int u i)) t o rest → Reads Bound t o rest
bounded t rest o r =
    let k = r.is in
    let w = k.is in
    let b : Bound (k.front ++ k.blanks) (Some w.0) = bound k.blanks w.2 k.are_blank in
    record { front = r.front; parts = r.parts; is = subst (λ (u : Text). Bound u o) (sym k.parts) (subst (λ (x : Option IntLit). Bound (k.front ++ k.blanks) x) (sym w.1) b) }

pub part_reads : ReadsOne part_at Bound
unfolding part_at
part_reads [] rest o e = no_part [] rest o e
part_reads (c ∷ t) rest o e = elim (chosen (begins_int c) _ _ _ e) [
  | inl h ↦ bounded (c ∷ t) rest o (reads_trimmed Int (λ u x. (i : IntLit) × (x ≡ Some i) × Int u i) Some int_at (c ∷ t) rest o int_reads (λ u i p. (i, refl, p)) h.1)
  | inr h ↦ no_part (c ∷ t) rest o h.1
]

-- ---- numbers, by the text behind each part

pub record Ends (R : Text → Type 0) (t rest : Text) : Type 0 where
  pub front : Text
  pub parts : t ≡ front ++ rest
  pub is : R front

are_digits : (c : ℕ) (t : Text) → is_digit c ≡ true → Digits (front_run is_digit (c ∷ t))
are_digits c t e = rw (e, e, run_passes is_digit t) refl

digits_end_reads : (t rest : Text) → digits_end t ≡ Some rest → Ends Digits t rest
unfolding digits_end
digits_end_reads [] rest e = absurd cc
digits_end_reads (c ∷ t) rest e =
    let run = front_run is_digit (c ∷ t) in
    let g = guarded (is_digit c) (Some (after_run is_digit (c ∷ t))) rest e in
    let p = some_is (after_run is_digit (c ∷ t)) rest g.1 in
    record { front = run; parts = run_parts is_digit (c ∷ t) ∙ ap (λ (u : Text). run ++ u) p; is = are_digits c t g.0 }

two_behind : (t u rest : Text) → t ≡ 0x2D ∷ u → u ≡ 0x30 ∷ rest → t ≡ (0x2D ∷ 0x30 ∷ []) ++ rest
two_behind t u rest p q = rw (p, q) refl

whole_from_reads : (t rest : Text) (k : Option Text) → minus_zero_end t ≡ k → whole_from t k ≡ Some rest → Ends Whole t rest
unfolding whole_from minus_zero_end
whole_from_reads t rest (Some v) h e =
    let b = bind_some (behind 0x2D t) (λ u. behind 0x30 u) v h in
    record { front = 0x2D ∷ 0x30 ∷ []; parts = two_behind t (b.0) rest (behind_reads 0x2D t (b.0) b.1) (behind_reads 0x30 (b.0) v b.2 ∙ ap (λ (u : Text). 0x30 ∷ u) (some_is v rest e)); is = minus_zero }
whole_from_reads t rest None h e =
    let b = bind_some (int_at t) (λ x. Some x.1) rest e in
    let r = int_reads t (b.0.1) (b.0.0) b.1 in
    record { front = r.front; parts = r.parts ∙ ap (λ (u : Text). r.front ++ u) (some_is (b.0.1) rest b.2); is = integer r.is }

whole_end_reads : (t rest : Text) → whole_end t ≡ Some rest → Ends Whole t rest
unfolding whole_end
whole_end_reads t rest e = whole_from_reads t rest (minus_zero_end t) refl e

fraction_from_reads : (t rest : Text) (k : Option Text) → behind 0x2E t ≡ k → fraction_from t k ≡ Some rest → Ends Fraction t rest
unfolding fraction_from
fraction_from_reads t rest (Some u) h e =
    let r = digits_end_reads u rest e in
    record { front = 0x2E ∷ r.front; parts = behind_reads 0x2E t u h ∙ ap (λ (v : Text). 0x2E ∷ v) r.parts; is = fraction r.is }
fraction_from_reads t rest None h e = record { front = []; parts = some_is t rest e; is = no_fraction }

fraction_end_reads : (t rest : Text) → fraction_end t ≡ Some rest → Ends Fraction t rest
unfolding fraction_end
fraction_end_reads t rest e = fraction_from_reads t rest (behind 0x2E t) refl e

sign_cases : (c : ℕ) (t : Text) (a b : Bool) → (c == 0x2B) ≡ a → (c == 0x2D) ≡ b → Ends Sign (c ∷ t) (cond (a || b) t (c ∷ t))
sign_cases c t true b h k = record { front = 0x2B ∷ []; parts = rw (eqb-true c 0x2B h) refl; is = plus_sign }
sign_cases c t false true h k = record { front = 0x2D ∷ []; parts = rw (eqb-true c 0x2D k) refl; is = minus_sign }
sign_cases c t false false h k = record { front = []; parts = refl; is = no_sign }

sign_end_reads : (t : Text) → Ends Sign t (sign_end t)
unfolding sign_end
sign_end_reads [] = record { front = []; parts = refl; is = no_sign }
sign_end_reads (c ∷ t) = sign_cases c t (c == 0x2B) (c == 0x2D) refl refl

exponent_parts : (c : ℕ) (t s v ds rest : Text) → t ≡ s ++ v → v ≡ ds ++ rest → c ∷ t ≡ (c ∷ (s ++ ds)) ++ rest
exponent_parts c t s v ds rest p q = rw (p, q) (simp append_assoc)

exponent_end_reads : (t rest : Text) → exponent_end t ≡ Some rest → Ends Exponent t rest
unfolding exponent_end
exponent_end_reads [] rest e = record { front = []; parts = some_is [] rest e; is = no_exponent }
exponent_end_reads (c ∷ t) rest e = elim (chosen (is_e c) _ _ _ e) [
  | inl h ↦ (
      let s = sign_end_reads t in
      let r = digits_end_reads (sign_end t) rest h.1 in
      record { front = c ∷ (s.front ++ r.front); parts = exponent_parts c t s.front (sign_end t) r.front rest s.parts r.parts; is = exponent r.front h.0 s.is r.is })
  | inr h ↦ record { front = []; parts = some_is (c ∷ t) rest h.1; is = no_exponent }
]

number_parts : (t u v i f x rest : Text) → t ≡ i ++ u → u ≡ f ++ v → v ≡ x ++ rest → t ≡ (i ++ (f ++ x)) ++ rest
number_parts t u v i f x rest p q r = rw (p, q, r) (simp append_assoc)

pub number_end_reads : (t rest : Text) → number_end t ≡ Some rest → Ends Number t rest
unfolding number_end
number_end_reads t rest e =
    let x = bind_some (whole_end t) (λ u. fraction_end u >>= λ v. exponent_end v) rest e in
    let y = bind_some (fraction_end (x.0)) (λ v. exponent_end v) rest x.2 in
    let i = whole_end_reads t (x.0) x.1 in
    let f = fraction_end_reads (x.0) (y.0) y.1 in
    let k = exponent_end_reads (y.0) rest y.2 in
    record { front = i.front ++ (f.front ++ k.front); parts = number_parts t (x.0) (y.0) i.front f.front k.front rest i.parts f.parts k.parts; is = number i.is f.is k.is }

-- ---- what stands before the rest

before_at : (f u : Text) (n : ℕ) → n ≡ length f → take n (f ++ u) ≡ f
before_at f u n e = rw e (take-append_seam f u)

pub before_is : (t f rest : Text) → t ≡ f ++ rest → before t rest ≡ f
before_is t f rest e =
    let n : length (f ++ rest) - length rest ≡ length f = omega (arith, length-append f rest) in
    rw e (before_at f rest (length (f ++ rest) - length rest) n)

pub number_fits : (t rest : Text) → number_end t ≡ Some rest → length rest ≤ length t
number_fits t rest e =
    let r = number_end_reads t rest e in
    rw r.parts (omega (arith, length-append r.front rest))

-- ---- numbers are ASCII

all_joined : (t u : Text) → list_all is_ascii t ≡ true → list_all is_ascii u ≡ true → list_all is_ascii (t ++ u) ≡ true
all_joined t u h k = rw (list_all-append is_ascii t u, h, k) refl

digit_ascii : (c : ℕ) → is_digit c ≡ true → is_ascii c ≡ true
digit_ascii c e = grind (arith, nat_tests)

between_ascii : (c : ℕ) → is_between 0x31 0x39 c ≡ true → is_ascii c ≡ true
between_ascii c e = grind (arith, nat_tests)

e_ascii : (c : ℕ) → is_e c ≡ true → is_ascii c ≡ true
e_ascii c e = grind (arith, nat_tests)

all_digits_ascii : (ds : Text) → list_all is_digit ds ≡ true → list_all is_ascii ds ≡ true
all_digits_ascii [] h = refl
all_digits_ascii (d ∷ ds) h = let k = and_parts (is_digit d) (list_all is_digit ds) h in rw (digit_ascii d k.0, all_digits_ascii ds k.1) refl

positive_ascii : (ds : Text) → Positive ds → list_all is_ascii ds ≡ true
positive_ascii [] h = absurd cc
positive_ascii (d ∷ ds) h = let k = and_parts (is_between 0x31 0x39 d) (list_all is_digit ds) h in rw (between_ascii d k.0, all_digits_ascii ds k.1) refl

digits_ascii : (ds : Text) → Digits ds → list_all is_ascii ds ≡ true
digits_ascii [] h = absurd cc
digits_ascii (d ∷ ds) h = all_digits_ascii (d ∷ ds) h

int_ascii : (t : Text) (i : IntLit) → Int t i → list_all is_ascii t ≡ true
int_ascii _ _ zero_int = refl
int_ascii t _ (plain_int p) = positive_ascii t p
int_ascii _ _ (minus_int {ds} p) = positive_ascii ds p

whole_ascii : (t : Text) → Whole t → list_all is_ascii t ≡ true
whole_ascii t (integer {i = i} p) = int_ascii t i p
whole_ascii _ minus_zero = refl

fraction_ascii : (t : Text) → Fraction t → list_all is_ascii t ≡ true
fraction_ascii _ no_fraction = refl
fraction_ascii _ (fraction {ds} h) = digits_ascii ds h

sign_ascii : (t : Text) → Sign t → list_all is_ascii t ≡ true
sign_ascii _ no_sign = refl
sign_ascii _ plus_sign = refl
sign_ascii _ minus_sign = refl

exponent_ascii : (t : Text) → Exponent t → list_all is_ascii t ≡ true
exponent_ascii _ no_exponent = refl
exponent_ascii _ (exponent {e} {s} ds h g d) = rw (e_ascii e h) (all_joined s ds (sign_ascii s g) (digits_ascii ds d))

number_is_ascii : (t : Text) → Number t → list_all is_ascii t ≡ true
number_is_ascii _ (number {i} {f} {e} p q r) = all_joined i (f ++ e) (whole_ascii i p) (all_joined f e (fraction_ascii f q) (exponent_ascii e r))

pub number_ascii : (t rest : Text) → number_end t ≡ Some rest → list_all is_ascii (before t rest) ≡ true
number_ascii t rest e =
    let r = number_end_reads t rest e in
    rw (before_is t r.front rest r.parts) (number_is_ascii r.front r.is)
