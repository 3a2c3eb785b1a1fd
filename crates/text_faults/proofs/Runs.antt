-- Over the bytes of a JSON text the machine goes from its start to its end.
use Rattle.json_text.proofs.Names.{◌≡◌, ◌≢◌, ℕ, ◌+◌, ◌≤◌, ◌⊎◌, inl, inr, Bool, true, false, List, [], ◌∷◌, ◌++◌, Option, Some, None, refl, sym, ap, ◌∙◌, subst, arith, nat_tests, append_assoc, eqb, false≢true}
use Rattle.json_text.proofs.Names.{IsText, IsScalarText, IsElements, IsMember, IsMembers, IsValue, array, member, next_element, next_member, object, one_element, one_member, scalar, no_array, no_object}
use Rattle.json_text.proofs.Names.{AreChars, IsChar, IsHexDigit, IsBlank, IsShort, AreBlanks, is_blank, Spelt, Plain, Short, Unit4, Scalar, Null, True, False, Num, Str, Tree, Elements, Members, Name}
use Rattle.json_text.proofs.Strings.{ArePlain, plain_bytes}
use Rattle.json_text.specs.Scanning.{is_short, is_hex}
use Rattle.json_text.specs.declared.modes.Mode.TheVariants.{Between}
use Rattle.json_text.specs.declared.tape.Shape.{Shape}
use Rattle.json_text.specs.declared.tape.Shape.TheVariants as shapes
use Rattle.decimal_order.specs.Number.{IsDigit, AreDigits, AreSomeDigits, Optional, IsMinus, IsSign, IsInt, IsFrac, IsExp, IsNumber}
use Rattle.text_faults.specs.declared.marks.Digits.{Digits}
use Rattle.text_faults.specs.declared.marks.Digits.TheVariants as digits
use Rattle.text_faults.specs.declared.marks.Now.{Now}
use Rattle.text_faults.specs.declared.marks.Now.TheVariants as now
use Rattle.text_faults.specs.declared.marks.Purpose.{Purpose}
use Rattle.text_faults.specs.declared.marks.Purpose.TheVariants as purposes
use Rattle.text_faults.specs.Moves.{State, state, step, step_on, run_on, start, digit, ends, begin, after_string, is_digit}
use Rattle.text_faults.specs.Prefixes.{Begins}

pub run_append : (o : Option State) (a b : List ℕ) → run_on o (a ++ b) ≡ run_on (run_on o a) b
run_append o [] b = refl
run_append o (x ∷ a) b = run_append (step_on o x) a b

pub run_none : (bs : List ℕ) → run_on None bs ≡ None
run_none [] = refl
run_none (b ∷ bs) = run_none bs

-- behind a value
abbrev pub may_end : Now → Bool
may_end now.Next = true
may_end (now.Number d) = ends d
may_end _ = false

pub record Ended (os : List Shape) (o : Option State) : Type 0 where
  pub last : Now
  pub ended : may_end last ≡ true
  pub is : o ≡ Some (state last os)

-- the bytes that stand behind values
abbrev IsBehind : ℕ → Type 0
IsBehind b = IsBlank b ⊎ (b ≡ 44) ⊎ (b ≡ 93) ⊎ (b ≡ 125)

no_digit : (d : Digits) (b : ℕ) → ends d ≡ true → IsBehind b → digit d b ≡ None
no_digit d b e h = grind (arith, nat_tests)

end_step : (n : Now) (os : List Shape) (b : ℕ) → may_end n ≡ true → IsBehind b → step (state n os) b ≡ step (state now.Next os) b
end_step now.Next os b e h = refl
end_step (now.Number d) os b e h = rw (no_digit d b e h, e) refl
end_step _ os b e h = absurd (cc)

pub blank_test : (b : ℕ) → IsBlank b → is_blank b ≡ true
blank_test b h = grind (arith, nat_tests)

-- the places at which blanks may stand
abbrev pub waits : Now → Bool
waits now.Value = true
waits now.FirstValue = true
waits now.Name = true
waits now.FirstName = true
waits now.Colon = true
waits now.Next = true
waits _ = false

blank_step : (n : Now) (os : List Shape) (b : ℕ) → waits n ≡ true → is_blank b ≡ true → step (state n os) b ≡ Some (state n os)
blank_step now.Value os b w e = rw e refl
blank_step now.FirstValue os b w e = rw e refl
blank_step now.Name os b w e = rw e refl
blank_step now.FirstName os b w e = rw e refl
blank_step now.Colon os b w e = rw e refl
blank_step now.Next os b w e = rw e refl
blank_step _ os b w e = absurd (cc)

blanks_run : (s : List ℕ) (n : Now) (os : List Shape) → waits n ≡ true → AreBlanks s → run_on (Some (state n os)) s ≡ Some (state n os)
blanks_run [] n os w h = refl
blanks_run (b ∷ s) n os w h = rw (blank_step n os b w (blank_test b h.0)) (blanks_run s n os w h.1)

ended_step : (n : Now) (os : List Shape) (b : ℕ) (rest : List ℕ) → may_end n ≡ true → IsBehind b → run_on (Some (state n os)) (b ∷ rest) ≡ run_on (step (state now.Next os) b) rest
ended_step n os b rest e h = ap (λ o. run_on o rest) (end_step n os b e h)

ended_blanks : (s : List ℕ) (os : List Shape) (o : Option State) → AreBlanks s → Ended os o → Ended os (run_on o s)
ended_blanks [] os o h e = e
ended_blanks (b ∷ s) os o h e = record {
  last = now.Next;
  ended = refl;
  is = ap (λ x. run_on x (b ∷ s)) e.is ∙ ended_step e.last os b s e.ended (inl h.0) ∙ ap (λ x. run_on x s) (blank_step now.Next os b refl (blank_test b h.0)) ∙ blanks_run s now.Next os refl h.1;
}

-- strings

plain_run : (bs : List ℕ) (p : Purpose) (os : List Shape) → ArePlain bs → run_on (Some (state (now.Quoted p Between) os)) bs ≡ Some (state (now.Quoted p Between) os)
plain_run [] p os h = refl
plain_run (b ∷ bs) p os h = rw h.0 (plain_run bs p os h.1)

hex_test : (b n : ℕ) → IsHexDigit b n → is_hex b ≡ true
hex_test b n h = grind (arith, nat_tests)

short_test : (l : ℕ) → IsShort l → is_short l ≡ true
short_test l h = grind (arith, nat_tests)

char_run : (c : Spelt) (one : List ℕ) (p : Purpose) (os : List Shape) → IsChar one c → run_on (Some (state (now.Quoted p Between) os)) one ≡ Some (state (now.Quoted p Between) os)
char_run (Plain c) one p os (s, h, n, m, e) = plain_run one p os (subst ArePlain (sym e) (plain_bytes c h n m))
char_run (Short l) one p os (h, e) = rw (e, short_test l h) refl
char_run (Unit4 u) one p os (a, b, c, d, x, y, z, w, ha, hb, hc, hd, eu, e) = rw (e, hex_test a x ha, hex_test b y hb, hex_test c z hc, hex_test d w hd) refl

chars_run : (cs : List Spelt) (inside : List ℕ) (p : Purpose) (os : List Shape) → AreChars inside cs → run_on (Some (state (now.Quoted p Between) os)) inside ≡ Some (state (now.Quoted p Between) os)
chars_run [] inside p os h = rw h refl
chars_run (c ∷ cs) inside p os (one, others, h, hs, e) =
    ap (run_on (Some (state (now.Quoted p Between) os))) e ∙ run_append _ one others ∙ ap (λ o. run_on o others) (char_run c one p os h) ∙ chars_run cs others p os hs

string_run : (inside : List ℕ) (cs : List Spelt) (p : Purpose) (os : List Shape) → AreChars inside cs → run_on (Some (state (now.Quoted p Between) os)) (inside ++ 34 ∷ []) ≡ Some (state (after_string p) os)
string_run inside cs p os h = run_append _ inside (34 ∷ []) ∙ ap (λ o. run_on o (34 ∷ [])) (chars_run cs inside p os h)

-- numbers

digit_test : (b : ℕ) → IsDigit b → is_digit b ≡ true
digit_test b h = grind (arith, nat_tests)

-- digits that go on with themselves
abbrev repeats : Digits → Bool
repeats digits.Int = true
repeats digits.Frac = true
repeats digits.Exp = true
repeats _ = false

digit_again : (d : Digits) (b : ℕ) → repeats d ≡ true → is_digit b ≡ true → digit d b ≡ Some d
digit_again digits.Int b r e = rw e refl
digit_again digits.Frac b r e = rw e refl
digit_again digits.Exp b r e = rw e refl
digit_again _ b r e = absurd (cc)

digits_run : (ds : List ℕ) (d : Digits) (os : List Shape) → repeats d ≡ true → AreDigits ds → run_on (Some (state (now.Number d) os)) ds ≡ Some (state (now.Number d) os)
digits_run [] d os r h = refl
digits_run (b ∷ ds) d os r h = rw (digit_again d b r (digit_test b h.0)) (digits_run ds d os r h.1)

-- a number read so far
record Read (Is : Digits → Bool) (os : List Shape) (o : Option State) : Type 0 where
  digits : Digits
  holds : Is digits ≡ true
  is : o ≡ Some (state (now.Number digits) os)

abbrev is_int : Digits → Bool
is_int digits.Zero = true
is_int digits.Int = true
is_int _ = false

abbrev is_decimal : Digits → Bool
is_decimal digits.Zero = true
is_decimal digits.Int = true
is_decimal digits.Frac = true
is_decimal _ = false

zero_first : (b : ℕ) → b ≡ 48 → (os : List Shape) (n : Now) → (n ≡ now.Value) ⊎ (n ≡ now.Number digits.Minus) → step (state n os) b ≡ Some (state (now.Number digits.Zero) os)
zero_first b e os n (inl f) = rw (e, f) refl
zero_first b e os n (inr f) = rw (e, f) refl

digit_first : (b : ℕ) → 0x31 ≤ b → b ≤ 0x39 → (os : List Shape) (n : Now) → (n ≡ now.Value) ⊎ (n ≡ now.Number digits.Minus) → step (state n os) b ≡ Some (state (now.Number digits.Int) os)
digit_first b l m os n (inl f) = rw f (grind (arith, nat_tests))
digit_first b l m os n (inr f) = rw f (grind (arith, nat_tests))

int_run : (int : List ℕ) (os : List Shape) (n : Now) → (n ≡ now.Value) ⊎ (n ≡ now.Number digits.Minus) → IsInt int → Read is_int os (run_on (Some (state n os)) int)
int_run [] os n f h = absurd h
int_run (b ∷ bs) os n f (inl (e, none)) = record { digits = digits.Zero; holds = refl; is = ap (λ l. run_on (step (state n os) b) l) none ∙ zero_first b e os n f }
int_run (b ∷ bs) os n f (inr (l, m, ds)) = record { digits = digits.Int; holds = refl; is = ap (λ o. run_on o bs) (digit_first b l m os n f) ∙ digits_run bs digits.Int os refl ds }

minus_int_run : (minus int : List ℕ) (os : List Shape) → Optional IsMinus minus → IsInt int → Read is_int os (run_on (Some (state now.Value os)) (minus ++ int))
minus_int_run minus int os (inl e) h = let r = int_run int os now.Value (inl refl) h in record { digits = r.digits; holds = r.holds; is = ap (λ l. run_on (Some (state now.Value os)) (l ++ int)) e ∙ r.is }
minus_int_run minus int os (inr e) h = let r = int_run int os (now.Number digits.Minus) (inr refl) h in record { digits = r.digits; holds = r.holds; is = ap (λ l. run_on (Some (state now.Value os)) (l ++ int)) e ∙ r.is }

point_step : (d : Digits) (os : List Shape) → is_int d ≡ true → step (state (now.Number d) os) 46 ≡ Some (state (now.Number digits.Point) os)
point_step digits.Zero os h = refl
point_step digits.Int os h = refl
point_step _ os h = absurd (cc)

some_digits_run : (ds : List ℕ) (d d' : Digits) (os : List Shape) → ((b : ℕ) → IsDigit b → step (state (now.Number d) os) b ≡ Some (state (now.Number d') os)) → repeats d' ≡ true → AreSomeDigits ds
    → run_on (Some (state (now.Number d) os)) ds ≡ Some (state (now.Number d') os)
some_digits_run [] d d' os f r h = absurd h
some_digits_run (b ∷ ds) d d' os f r h = ap (λ o. run_on o ds) (f b h.0) ∙ digits_run ds d' os r h.1

is_int_decimal : (d : Digits) → is_int d ≡ true → is_decimal d ≡ true
is_int_decimal digits.Zero h = refl
is_int_decimal digits.Int h = refl
is_int_decimal _ h = absurd (cc)

frac_digit : (b : ℕ) → IsDigit b → (os : List Shape) → step (state (now.Number digits.Point) os) b ≡ Some (state (now.Number digits.Frac) os)
frac_digit b h os = rw (digit_test b h) refl

frac_run : (frac : List ℕ) (d : Digits) (os : List Shape) → is_int d ≡ true → Optional IsFrac frac → Read is_decimal os (run_on (Some (state (now.Number d) os)) frac)
frac_run frac d os i (inl e) = record { digits = d; holds = is_int_decimal d i; is = rw e refl }
frac_run [] d os i (inr h) = absurd h
frac_run (b ∷ bs) d os i (inr (e, ds)) = record {
  digits = digits.Frac;
  holds = refl;
  is = ap (λ c. run_on (step (state (now.Number d) os) c) bs) e ∙ ap (λ o. run_on o bs) (point_step d os i) ∙ some_digits_run bs digits.Point digits.Frac os (λ c h. frac_digit c h os) refl ds;
}

e_step : (d : Digits) (b : ℕ) (os : List Shape) → is_decimal d ≡ true → (b ≡ 0x65) ⊎ (b ≡ 0x45) → step (state (now.Number d) os) b ≡ Some (state (now.Number digits.E) os)
e_step digits.Zero b os i (inl e) = rw e refl
e_step digits.Zero b os i (inr e) = rw e refl
e_step digits.Int b os i (inl e) = rw e refl
e_step digits.Int b os i (inr e) = rw e refl
e_step digits.Frac b os i (inl e) = rw e refl
e_step digits.Frac b os i (inr e) = rw e refl
e_step _ b os i h = absurd (cc)

exp_digit_first : (b : ℕ) → IsDigit b → (os : List Shape) → step (state (now.Number digits.E) os) b ≡ Some (state (now.Number digits.Exp) os)
exp_digit_first b h os = grind (arith, nat_tests)

exp_digit_signed : (b : ℕ) → IsDigit b → (os : List Shape) → step (state (now.Number digits.Sign) os) b ≡ Some (state (now.Number digits.Exp) os)
exp_digit_signed b h os = rw (digit_test b h) refl

signed_run : (sign ds : List ℕ) (os : List Shape) → Optional IsSign sign → AreSomeDigits ds → run_on (Some (state (now.Number digits.E) os)) (sign ++ ds) ≡ Some (state (now.Number digits.Exp) os)
signed_run sign ds os (inl e) h = ap (λ l. run_on (Some (state (now.Number digits.E) os)) (l ++ ds)) e ∙ some_digits_run ds digits.E digits.Exp os (λ c k. exp_digit_first c k os) refl h
signed_run sign ds os (inr (inl e)) h = ap (λ l. run_on (Some (state (now.Number digits.E) os)) (l ++ ds)) e ∙ some_digits_run ds digits.Sign digits.Exp os (λ c k. exp_digit_signed c k os) refl h
signed_run sign ds os (inr (inr e)) h = ap (λ l. run_on (Some (state (now.Number digits.E) os)) (l ++ ds)) e ∙ some_digits_run ds digits.Sign digits.Exp os (λ c k. exp_digit_signed c k os) refl h

decimal_ends : (d : Digits) → is_decimal d ≡ true → ends d ≡ true
decimal_ends digits.Zero h = refl
decimal_ends digits.Int h = refl
decimal_ends digits.Frac h = refl
decimal_ends _ h = absurd (cc)

exp_run : (exp : List ℕ) (d : Digits) (os : List Shape) → is_decimal d ≡ true → Optional IsExp exp → Ended os (run_on (Some (state (now.Number d) os)) exp)
exp_run exp d os i (inl e) = record { last = now.Number d; ended = decimal_ends d i; is = rw e refl }
exp_run exp d os i (inr h) = record {
  last = now.Number digits.Exp;
  ended = refl;
  is = ap (run_on (Some (state (now.Number d) os))) h.whole ∙ ap (λ o. run_on o (h.sign ++ h.digits)) (e_step d h.e os i h.is_e) ∙ signed_run h.sign h.digits os h.is_sign h.are_digits;
}

number_run : (bs : List ℕ) (os : List Shape) → IsNumber bs → Ended os (run_on (Some (state now.Value os)) bs)
number_run bs os n =
    let r = minus_int_run n.minus n.int os n.is_minus n.is_int in
    let f = frac_run n.frac r.digits os r.holds n.is_frac in
    let x = exp_run n.exp f.digits os f.holds n.is_exp in
    record { last = x.last; ended = x.ended; is = ap (run_on (Some (state now.Value os))) (n.whole ∙ sym (append_assoc n.minus n.int (n.frac ++ n.exp))) ∙ run_append _ (n.minus ++ n.int) (n.frac ++ n.exp) ∙ ap (λ o. run_on o (n.frac ++ n.exp)) r.is ∙ run_append _ n.frac n.exp ∙ ap (λ o. run_on o n.exp) f.is ∙ x.is }

scalar_run : (c : Scalar) (bs : List ℕ) (os : List Shape) → IsScalarText bs c → Ended os (run_on (Some (state now.Value os)) bs)
scalar_run Null bs os h = record { last = now.Next; ended = refl; is = rw h refl }
scalar_run True bs os h = record { last = now.Next; ended = refl; is = rw h refl }
scalar_run False bs os h = record { last = now.Next; ended = refl; is = rw h refl }
scalar_run Num bs os h = number_run bs os h
scalar_run (Str cs) bs os (inside, h, e) = record { last = now.Next; ended = refl; is = ap (run_on (Some (state now.Value os))) e ∙ string_run inside cs purposes.Value os h }

-- the first element, and the first name, of a container that is not empty

abbrev ended_in : Option State → Bool
ended_in None = false
ended_in (Some s) = may_end s.now

first_value : (bs : List ℕ) (os : List Shape) (n : Now) (os' : List Shape) → may_end n ≡ true → run_on (Some (state now.Value (shapes.Array ∷ os))) bs ≡ Some (state n os') → run_on (Some (state now.FirstValue os)) bs ≡ Some (state n os')
first_value [] os n os' m e = absurd (false≢true (ap ended_in e ∙ m))
first_value (b ∷ bs) os n os' m e = by_blank (is_blank b) refl (first_value bs os n os' m)
  where
    by_begin : (o : Option Now) → begin b ≡ o → is_blank b ≡ false → run_on (Some (state now.FirstValue os)) (b ∷ bs) ≡ Some (state n os')
    by_begin None f g = absurd (let x = rw (g, f) at e in let y = run_none bs in cc)
    by_begin (Some k) f g = by_bracket (eqb b 93) refl where
      by_bracket : (t : Bool) → eqb b 93 ≡ t → run_on (Some (state now.FirstValue os)) (b ∷ bs) ≡ Some (state n os')
      by_bracket true h = absurd (let x : b ≡ 93 = grind (arith, nat_tests) in let y = ap begin x in cc)
      by_bracket false h = rw (g, h, f) (rw (g, f) at e)

    by_blank : (t : Bool) → is_blank b ≡ t → (run_on (Some (state now.Value (shapes.Array ∷ os))) bs ≡ Some (state n os') → run_on (Some (state now.FirstValue os)) bs ≡ Some (state n os'))
        → run_on (Some (state now.FirstValue os)) (b ∷ bs) ≡ Some (state n os')
    by_blank true f others = rw f (others (rw f at e))
    by_blank false f others = by_begin (begin b) refl f

first_name : (bs : List ℕ) (os : List Shape) (n : Now) (os' : List Shape) → may_end n ≡ true → run_on (Some (state now.Name os)) bs ≡ Some (state n os') → run_on (Some (state now.FirstName os)) bs ≡ Some (state n os')
first_name [] os n os' m e = absurd (false≢true (ap ended_in e ∙ m))
first_name (b ∷ bs) os n os' m e = by_blank (is_blank b) refl (first_name bs os n os' m)
  where
    by_quote : (t : Bool) → eqb b 34 ≡ t → is_blank b ≡ false → run_on (Some (state now.FirstName os)) (b ∷ bs) ≡ Some (state n os')
    by_quote false f g = absurd (let x = rw (g, f) at e in let y = run_none bs in cc)
    by_quote true f g = by_brace (eqb b 125) refl where
      by_brace : (t : Bool) → eqb b 125 ≡ t → run_on (Some (state now.FirstName os)) (b ∷ bs) ≡ Some (state n os')
      by_brace true h = absurd (let x : b ≡ 125 = grind (arith, nat_tests) in let y : b ≡ 34 = grind (arith, nat_tests) in omega arith)
      by_brace false h = rw (g, h, f) (rw (g, f) at e)

    by_blank : (t : Bool) → is_blank b ≡ t → (run_on (Some (state now.Name os)) bs ≡ Some (state n os') → run_on (Some (state now.FirstName os)) bs ≡ Some (state n os')) → run_on (Some (state now.FirstName os)) (b ∷ bs) ≡ Some (state n os')
    by_blank true f others = rw f (others (rw f at e))
    by_blank false f others = by_quote (eqb b 34) refl f

-- values

pub over : (a b : List ℕ) (o o' : Option State) → run_on o a ≡ o' → run_on o (a ++ b) ≡ run_on o' b
over a b o o' e = run_append o a b ∙ ap (λ x. run_on x b) e

-- from inside a container, over blanks and the sign that closes it
close_run : (s : List ℕ) (c : ℕ) (shape : Shape) (os : List Shape) (o : Option State) → AreBlanks s → Ended (shape ∷ os) o → IsBehind c → step (state now.Next (shape ∷ os)) c ≡ Some (state now.Next os)
    → run_on o (s ++ c ∷ []) ≡ Some (state now.Next os)
close_run s c shape os o b e i h = let x = ended_blanks s (shape ∷ os) o b e in over s (c ∷ []) o _ x.is ∙ ended_step x.last (shape ∷ os) c [] x.ended i ∙ h

-- over blanks, a comma and blanks
comma_run : (s s' : List ℕ) (shape : Shape) (os : List Shape) (n : Now) (os' : List Shape) (o : Option State) → AreBlanks s → AreBlanks s' → Ended (shape ∷ os) o → waits n ≡ true
    → step (state now.Next (shape ∷ os)) 44 ≡ Some (state n os') → run_on o (s ++ 44 ∷ s') ≡ Some (state n os')
comma_run s s' shape os n os' o b b' e w h = let x = ended_blanks s (shape ∷ os) o b e in
    over s (44 ∷ s') o _ x.is ∙ ended_step x.last (shape ∷ os) 44 s' x.ended (inr (inl refl)) ∙ ap (λ y. run_on y s') h ∙ blanks_run s' n os' w b'

ended_by : (os : List Shape) (o o' : Option State) → o ≡ o' → Ended os o' → Ended os o
ended_by os o o' e x = record { last = x.last; ended = x.ended; is = e ∙ x.is }

mutual
  pub value_run : {p : ℕ} {vs : List ℕ} {t : Tree} → IsValue p vs t → (os : List Shape) → Ended os (run_on (Some (state now.Value os)) vs)
  value_run (scalar {bs = bs} {s = c} h) os = scalar_run c bs os h
  value_run (no_array s b) os = record { last = now.Next; ended = refl; is = over s (93 ∷ []) _ _ (blanks_run s now.FirstValue os refl b) }
  value_run (array s body s' b h b') os = record {
    last = now.Next;
    ended = refl;
    is = let e = elements_run h os in
        ap (run_on (Some (state now.FirstValue os))) (append_assoc (s ++ body) s' (93 ∷ []))
        ∙ ap (run_on (Some (state now.FirstValue os))) (append_assoc s body (s' ++ 93 ∷ []))
        ∙ over s (body ++ (s' ++ 93 ∷ [])) _ _ (blanks_run s now.FirstValue os refl b)
        ∙ over body (s' ++ 93 ∷ []) _ _ (first_value body os e.last (shapes.Array ∷ os) e.ended e.is)
        ∙ close_run s' 93 shapes.Array os _ b' (record { last = e.last; ended = e.ended; is = refl }) (inr (inr (inl refl))) refl;
  }
  value_run (no_object s b) os = record { last = now.Next; ended = refl; is = over s (125 ∷ []) _ _ (blanks_run s now.FirstName os refl b) }
  value_run (object s body s' b h b') os = record {
    last = now.Next;
    ended = refl;
    is = let e = members_run h os in
        ap (run_on (Some (state now.FirstName os))) (append_assoc (s ++ body) s' (125 ∷ []))
        ∙ ap (run_on (Some (state now.FirstName os))) (append_assoc s body (s' ++ 125 ∷ []))
        ∙ over s (body ++ (s' ++ 125 ∷ [])) _ _ (blanks_run s now.FirstName os refl b)
        ∙ over body (s' ++ 125 ∷ []) _ _ (first_name body os e.last (shapes.Object ∷ os) e.ended e.is)
        ∙ close_run s' 125 shapes.Object os _ b' (record { last = e.last; ended = e.ended; is = refl }) (inr (inr (inr refl))) refl;
  }

  elements_run : {p : ℕ} {vs : List ℕ} {es : Elements} → IsElements p vs es → (os : List Shape) → Ended (shapes.Array ∷ os) (run_on (Some (state now.Value (shapes.Array ∷ os))) vs)
  elements_run (one_element h) os = value_run h (shapes.Array ∷ os)
  elements_run (next_element front s s' bs hf b b' hv) os =
      ended_by _ _ _
      (over (front ++ s ++ 44 ∷ s') bs _ _ (ap (run_on _) (append_assoc front s (44 ∷ s')) ∙ run_append _ front (s ++ 44 ∷ s') ∙ comma_run s s' shapes.Array os now.Value (shapes.Array ∷ os) _ b b' (elements_run hf os) refl refl))
      (value_run hv (shapes.Array ∷ os))

  members_run : {p : ℕ} {vs : List ℕ} {ms : Members} → IsMembers p vs ms → (os : List Shape) → Ended (shapes.Object ∷ os) (run_on (Some (state now.Name os)) vs)
  members_run (one_member h) os = member_run h os
  members_run (next_member front s s' bs hf b b' hv) os =
      ended_by _ _ _
      (over (front ++ s ++ 44 ∷ s') bs _ _ (ap (run_on _) (append_assoc front s (44 ∷ s')) ∙ run_append _ front (s ++ 44 ∷ s') ∙ comma_run s s' shapes.Object os now.Name os _ b b' (members_run hf os) refl refl))
      (member_run hv os)

  member_run : {p : ℕ} {vs : List ℕ} {nm : Name} {t : Tree} → IsMember p vs nm t → (os : List Shape) → Ended (shapes.Object ∷ os) (run_on (Some (state now.Name os)) vs)
  member_run (member name s s' bs {n = nm} src hs b b' hv) os =
      ended_by _ _ _
      (over (name ++ s ++ 58 ∷ s') bs _ _ (over (name ++ s) (58 ∷ s') _ _ (over name s _ _ (ap (run_on (Some (state now.Name os))) hs.2 ∙ string_run hs.0 nm.characters purposes.Name os hs.1) ∙ blanks_run s now.Colon os refl b) ∙ blanks_run s' now.Value (shapes.Object ∷ os) refl b'))
      (value_run hv (shapes.Object ∷ os))

-- no JSON text begins with bytes at which the machine stops
pub text_run : (text : List ℕ) (t : Tree) → IsText text t → Ended [] (run_on start text)
text_run text t h =
    ended_by [] _ _
    (ap (run_on start) h.whole ∙ over (h.before ++ h.bytes) h.after _ _ (over h.before h.bytes _ _ (blanks_run h.before now.Value [] refl h.blanks_before)))
    (ended_blanks h.after [] _ h.blanks_after (value_run h.value []))

pub none_begins : (bytes : List ℕ) → run_on start bytes ≡ None → Begins bytes → ⊥
none_begins bytes e (rest, t, h) = let x = text_run (bytes ++ rest) t h in let y = x.is in let z = over bytes rest start None e in let w = run_none rest in cc
