-- What completes a text behind a byte, with that byte before it completes the text before the byte.
use Rattle.json_text.proofs.Names.{◌≡◌, ℕ, zero, suc, ◌+◌, ◌-◌, ◌*◌, ◌<◌, ◌≤◌, inl, inr, Bool, true, false, cond, ◌&&◌, ◌||◌, eqb, leb, ltb, List, [], ◌∷◌, ◌++◌, length, Option, Some, None, refl, sym, ap, ◌∙◌, subst, arith, nat_tests, append_assoc}
use Rattle.json_text.proofs.Names.{array, member, next_element, next_member, object, one_element, one_member, scalar, no_array, no_object, at}
use Rattle.json_text.proofs.Names.{IsChar, IsHexDigit, IsBlank, IsShort, AreBlanks, is_blank, turn, Spelt, Plain, Short, Unit4, Null, True, False, Num, Str, Leaf}
use Rattle.std.specs.Char.{IsScalar}
use Rattle.std.specs.Prelude.{codes}
use Rattle.std.proofs.lemmas.Str.{encode_ascii}
use Rattle.json_text.specs.Scanning.{is_short, is_hex}
use Rattle.json_text.specs.declared.modes.Mode.{Mode}
use Rattle.json_text.specs.declared.modes.Mode.TheVariants.{Between, Escape, Hex}
use Rattle.json_text.specs.declared.modes.Turn.{Turn}
use Rattle.json_text.specs.declared.tape.Shape.{Shape}
use Rattle.json_text.specs.declared.tape.Shape.TheVariants as shapes
use Rattle.decimal_order.specs.Number.{IsDigit, AreDigits, IsSign, IsE, IsNumber}
use Rattle.text_faults.specs.declared.marks.Digits.{Digits}
use Rattle.text_faults.specs.declared.marks.Digits.TheVariants as digits
use Rattle.text_faults.specs.declared.marks.Letters.{Letters}
use Rattle.text_faults.specs.declared.marks.Letters.TheVariants as letters
use Rattle.text_faults.specs.declared.marks.Now.{Now}
use Rattle.text_faults.specs.declared.marks.Now.TheVariants as now
use Rattle.text_faults.specs.declared.marks.Purpose.{Purpose}
use Rattle.text_faults.specs.declared.marks.Purpose.TheVariants as purposes
use Rattle.text_faults.specs.Moves.{State, state, step, moved, top, to, into_array, begin, letter, after_letter, follow, in_container, name, quoted, after_string, number, number_next, number_end, digit, point, exp_digit, is_digit, is_e, ends}
use Rattle.text_faults.proofs.Completions.{Els, Mem, Mems, Closed, Closes, After, AValue, AColon, AName, Empty, AreHex, AfterString, Exponent, Fraction, InNumber, Completes, closes_now}

-- these bytes complete what the machine came to, if it came to anything
abbrev pub Done : Option State → List ℕ → Type 0
Done None r = ⊥
Done (Some s) r = Completes s.now s.opens r

by_cond : {A : Type 0} (P : A → Type 0) (Q : Type 0) (t : Bool) (x y : A) → (t ≡ true → P x → Q) → (t ≡ false → P y → Q) → P (cond t x y) → Q
by_cond P Q true x y f g h = f refl h
by_cond P Q false x y f g h = g refl h

same : (b n : ℕ) → eqb b n ≡ true → b ≡ n
same b n e = grind (arith, nat_tests)

at_byte : (F : ℕ → Type 0) (b n : ℕ) → eqb b n ≡ true → F n → F b
at_byte F b n e x = subst F (sym (same b n e)) x

blank_of : (b : ℕ) → is_blank b ≡ true → IsBlank b
blank_of b h = grind (arith, nat_tests)

-- ---- blanks

value_blank : (b : ℕ) (os : List Shape) (r : List ℕ) → IsBlank b → AValue os r → AValue os (b ∷ r)
value_blank b os r h (s, v, rest, bl, val, a, e) = (b ∷ s, v, rest, (h, bl), val, a, ap (λ l. b ∷ l) e)

colon_blank : (b : ℕ) (os : List Shape) (r : List ℕ) → IsBlank b → AColon os r → AColon os (b ∷ r)
colon_blank b os r h (s, rest, bl, v, e) = (b ∷ s, rest, (h, bl), v, ap (λ l. b ∷ l) e)

name_blank : (b : ℕ) (os : List Shape) (r : List ℕ) → IsBlank b → AName os r → AName os (b ∷ r)
name_blank b os r h (s, n, rest, cs, bl, str, c, e) = (b ∷ s, n, rest, cs, (h, bl), str, c, ap (λ l. b ∷ l) e)

empty_blank : (sign b : ℕ) (os : List Shape) (r : List ℕ) → IsBlank b → Empty sign os r → Empty sign os (b ∷ r)
empty_blank sign b os r h (s, rest, bl, a, e) = (b ∷ s, rest, (h, bl), a, ap (λ l. b ∷ l) e)

blanks_more : (s : List ℕ) (b : ℕ) → AreBlanks s → IsBlank b → AreBlanks (s ++ b ∷ [])
blanks_more [] b h i = (i, tt)
blanks_more (x ∷ s) b h i = (h.0, blanks_more s b h.1 i)

closes_blank : (Are : List ℕ → Type 0) (sign b : ℕ) (inside : List ℕ) → IsBlank b → Closes Are sign inside → Closes Are sign (b ∷ inside)
closes_blank Are sign b inside h f front s a bl =
    subst (λ l. Closed Are sign (front ++ l)) (append_assoc s (b ∷ []) inside) (f front (s ++ b ∷ []) a (blanks_more s b bl h))

after_blank : (os : List Shape) (b : ℕ) (r : List ℕ) → IsBlank b → After os r → After os (b ∷ r)
after_blank [] b r h a = (h, a)
after_blank (shapes.Array ∷ os) b r h (inside, rest, f, a, e) = (b ∷ inside, rest, closes_blank Els 93 b inside h f, a, ap (λ l. b ∷ l) e)
after_blank (shapes.Object ∷ os) b r h (inside, rest, f, a, e) = (b ∷ inside, rest, closes_blank Mems 125 b inside h f, a, ap (λ l. b ∷ l) e)

-- ---- containers

regroup : (s body blanks x rest : List ℕ) → (s ++ body ++ blanks ++ x) ++ rest ≡ s ++ ((body ++ (blanks ++ x)) ++ rest)
regroup s body blanks x rest = simp append_assoc

-- from the first element or member on, up to the closing sign and behind it
closed_is : (Are : List ℕ → Type 0) (sign : ℕ) (s m inside rest r r1 : List ℕ) (c : Closed Are sign (m ++ inside)) → r ≡ s ++ (m ++ r1) → r1 ≡ inside ++ rest
    → r ≡ (s ++ c.body ++ c.blanks ++ sign ∷ []) ++ rest
closed_is Are sign s m inside rest r r1 c e f =
    e ∙ ap (λ l. s ++ (m ++ l)) f ∙ ap (λ l. s ++ l) (sym (append_assoc m inside rest)) ∙ ap (λ l. s ++ (l ++ rest)) c.is ∙ sym (regroup s c.body c.blanks (sign ∷ []) rest)

bracket_back : (os : List Shape) (r : List ℕ) → Completes now.FirstValue os r → AValue os (91 ∷ r)
bracket_back os r (inl (s, rest, b, a, e)) = ([], 91 ∷ (s ++ 93 ∷ []), rest, tt, (λ p. (_, no_array s b)), a, ap (λ l. 91 ∷ l) (e ∙ sym (append_assoc s (93 ∷ []) rest)))
bracket_back os r (inr (s, v, r1, b, val, (inside, rest, f, a, e2), e)) =
    let c = f v [] (λ p. (_, one_element (val p).1)) tt in
    ([], 91 ∷ (s ++ c.body ++ c.blanks ++ 93 ∷ []), rest, tt, (λ p. (_, array s c.body c.blanks b (c.are (p + 1 + length s)).1 c.are_blanks)), a, ap (λ l. 91 ∷ l) (closed_is Els 93 s v inside rest r r1 c e e2))

-- a name, the colon and the value as a member
record AMember (os : List Shape) (r : List ℕ) : Type 0 where
  blanks : List ℕ
  bytes : List ℕ
  rest : List ℕ
  are_blanks : AreBlanks blanks
  member : Mem bytes
  after : After (shapes.Object ∷ os) rest
  is : r ≡ blanks ++ (bytes ++ rest)

name_member : (os : List Shape) (r : List ℕ) → AName os r → AMember os r
name_member os r (s, n, r1, cs, b, str, (s1, r2, b1, (s2, v, r3, b2, val, a, e3), e2), e1) = record {
  blanks = s;
  bytes = n ++ s1 ++ 58 ∷ s2 ++ v;
  rest = r3;
  are_blanks = b;
  member = λ p. (record { source = at p n; characters = cs }, _, member n s1 s2 v refl str b1 b2 (val (p + length (n ++ s1 ++ 58 ∷ s2))).1);
  after = a;
  is = e1 ∙ ap (λ l. s ++ l) (ap (λ l. n ++ l) (e2 ∙ ap (λ l. s1 ++ 58 ∷ l) e3) ∙ regroup_member n s1 s2 v r3);
}
  where
    regroup_member : (n s1 s2 v r3 : List ℕ) → n ++ (s1 ++ 58 ∷ (s2 ++ (v ++ r3))) ≡ (n ++ s1 ++ 58 ∷ s2 ++ v) ++ r3
    regroup_member n s1 s2 v r3 = simp append_assoc

brace_some : (os : List Shape) (r : List ℕ) → AMember os r → AValue os (123 ∷ r)
brace_some os r m = go m.after where
  go : After (shapes.Object ∷ os) m.rest → AValue os (123 ∷ r)
  go (inside, rest, f, a, e2) =
      let c = f m.bytes [] (λ p. (_, one_member (m.member p).2)) tt in
      ([], 123 ∷ (m.blanks ++ c.body ++ c.blanks ++ 125 ∷ []), rest, tt, (λ p. (_, object m.blanks c.body c.blanks m.are_blanks (c.are (p + 1 + length m.blanks)).1 c.are_blanks)), a, ap (λ l. 123 ∷ l) (closed_is Mems 125 m.blanks m.bytes inside rest r m.rest c m.is e2))

brace_back : (os : List Shape) (r : List ℕ) → Completes now.FirstName os r → AValue os (123 ∷ r)
brace_back os r (inl (s, rest, b, a, e)) = ([], 123 ∷ (s ++ 125 ∷ []), rest, tt, (λ p. (_, no_object s b)), a, ap (λ l. 123 ∷ l) (e ∙ sym (append_assoc s (125 ∷ []) rest)))
brace_back os r (inr n) = brace_some os r (name_member os r n)

regroup_front : (front s0 s v inside : List ℕ) → (front ++ s0 ++ 44 ∷ s ++ v) ++ ([] ++ inside) ≡ front ++ (s0 ++ 44 ∷ (s ++ (v ++ inside)))
regroup_front front s0 s v inside = simp append_assoc

comma_rest : (s v inside rest r r1 : List ℕ) → r ≡ s ++ (v ++ r1) → r1 ≡ inside ++ rest → 44 ∷ r ≡ 44 ∷ (s ++ (v ++ inside)) ++ rest
comma_rest s v inside rest r r1 e f = ap (λ l. 44 ∷ l) (e ∙ ap (λ l. s ++ (v ++ l)) f ∙ regrouped) where
  regrouped : s ++ (v ++ (inside ++ rest)) ≡ (s ++ (v ++ inside)) ++ rest
  regrouped = simp append_assoc

array_comma : (os : List Shape) (r : List ℕ) → AValue (shapes.Array ∷ os) r → After (shapes.Array ∷ os) (44 ∷ r)
array_comma os r (s, v, r1, b, val, (inside, rest, f, a, e2), e) = (44 ∷ (s ++ (v ++ inside)), rest, closes, a, comma_rest s v inside rest r r1 e e2) where
  closes : Closes Els 93 (44 ∷ (s ++ (v ++ inside)))
  closes front s0 h b0 = subst (Closed Els 93) (regroup_front front s0 s v inside)
      (f (front ++ s0 ++ 44 ∷ s ++ v) [] (λ p. (_, next_element front s0 s v (h p).1 b0 b (val (p + length (front ++ s0 ++ 44 ∷ s))).1)) tt)

object_comma : (os : List Shape) (r : List ℕ) → AMember os r → After (shapes.Object ∷ os) (44 ∷ r)
object_comma os r m = go m.after where
  go : After (shapes.Object ∷ os) m.rest → After (shapes.Object ∷ os) (44 ∷ r)
  go (inside, rest, f, a, e2) = (
    44 ∷ (m.blanks ++ (m.bytes ++ inside)),
    rest,
    (λ front s0 h b0. subst (Closed Mems 125) (regroup_front front s0 m.blanks m.bytes inside)
        (f (front ++ s0 ++ 44 ∷ m.blanks ++ m.bytes) [] (λ p. (_, next_member front s0 m.blanks m.bytes (h p).1 b0 m.are_blanks (m.member (p + length (front ++ s0 ++ 44 ∷ m.blanks))).2)) tt)),
    a,
    comma_rest m.blanks m.bytes inside rest r m.rest m.is e2,
  )

in_back : (os : List Shape) (b : ℕ) (r : List ℕ) → Done (moved (in_container (top os) b) os) r → After os (b ∷ r)
in_back [] b r = λ h. absurd h
in_back (shapes.Array ∷ os) b r = by_cond (λ m. Done (moved m (shapes.Array ∷ os)) r) (After (shapes.Array ∷ os) (b ∷ r)) (eqb b 44) _ _
    (λ e h. at_byte (λ c. After (shapes.Array ∷ os) (c ∷ r)) b 44 e (array_comma os r h))
    (λ _. by_cond (λ m. Done (moved m (shapes.Array ∷ os)) r) (After (shapes.Array ∷ os) (b ∷ r)) (eqb b 93) _ _
    (λ e h. at_byte (λ c. After (shapes.Array ∷ os) (c ∷ r)) b 93 e (93 ∷ [], r, closes_now Els 93, h, refl))
    (λ _ h. absurd h))
in_back (shapes.Object ∷ os) b r = by_cond (λ m. Done (moved m (shapes.Object ∷ os)) r) (After (shapes.Object ∷ os) (b ∷ r)) (eqb b 44) _ _
    (λ e h. at_byte (λ c. After (shapes.Object ∷ os) (c ∷ r)) b 44 e (object_comma os r (name_member os r h)))
    (λ _. by_cond (λ m. Done (moved m (shapes.Object ∷ os)) r) (After (shapes.Object ∷ os) (b ∷ r)) (eqb b 125) _ _
    (λ e h. at_byte (λ c. After (shapes.Object ∷ os) (c ∷ r)) b 125 e (125 ∷ [], r, closes_now Mems 125, h, refl))
    (λ _ h. absurd h))

follow_back : (os : List Shape) (b : ℕ) (r : List ℕ) → Done (moved (follow (top os) b) os) r → After os (b ∷ r)
follow_back os b r = by_cond (λ m. Done (moved m os) r) (After os (b ∷ r)) (is_blank b) _ _ (λ e h. after_blank os b r (blank_of b e) h) (λ _ h. in_back os b r h)

-- ---- strings

hex_of : ℕ → ℕ
hex_of b = cond (leb b 57) (b - 48) (cond (leb b 70) (b - 55) (b - 87))

hex_digit : (b : ℕ) → is_hex b ≡ true → IsHexDigit b (hex_of b)
unfolding hex_of
hex_digit b h = grind (arith, nat_tests)

short_letter : (l : ℕ) → is_short l ≡ true → IsShort l
short_letter l h = grind (arith, nat_tests)

unit_char : (one : List ℕ) → AreHex 4 one → (u : ℕ) × IsChar (92 ∷ 117 ∷ one) (Unit4 u)
unit_char [] h = absurd h
unit_char (a ∷ []) h = absurd h.1
unit_char (a ∷ b ∷ []) h = absurd h.1.1
unit_char (a ∷ b ∷ c ∷ []) h = absurd h.1.1.1
unit_char (a ∷ b ∷ c ∷ d ∷ rest) (x, (y, (z, (w, e)))) = (4096 * x.0 + 256 * y.0 + 16 * z.0 + w.0, (a, b, c, d, x.0, y.0, z.0, w.0, x.1, y.1, z.1, w.1, refl, ap (λ l. 92 ∷ 117 ∷ a ∷ b ∷ c ∷ d ∷ l) e))

string_end_back : (p : Purpose) (os : List Shape) (r : List ℕ) → Completes (after_string p) os r → AfterString p os r
string_end_back purposes.Value os r h = h
string_end_back purposes.Name os r h = h

-- a character before the rest of a string
pub char_back : (one : List ℕ) (c : Spelt) (p : Purpose) (os : List Shape) (r : List ℕ) → IsChar one c → Completes (now.Quoted p Between) os r → Completes (now.Quoted p Between) os (one ++ r)
char_back one c p os r i (q, rest, (inside, cs, ac, e1), a, e) =
    (one ++ q, rest, (one ++ inside, c ∷ cs, (one, inside, i, ac, refl), ap (λ l. one ++ l) e1 ∙ sym (append_assoc one inside (34 ∷ []))), a, ap (λ l. one ++ l) e ∙ sym (append_assoc one q rest))

between_back : (p : Purpose) (os : List Shape) (b : ℕ) (r : List ℕ) → b < 128 → IsScalar b → Done (moved (quoted p (turn Between b)) os) r → Completes (now.Quoted p Between) os (b ∷ r)
between_back p os b r l sc = by_cond P Q (eqb b 34) _ _
    (λ e h. at_byte F b 34 e (34 ∷ [], r, ([], [], refl, refl), string_end_back p os r h, refl))
    (λ n. by_cond P Q (eqb b 92) _ _
    (λ e h. at_byte F b 92 e (slash h))
    (λ m. by_cond P Q (ltb b 32) _ _
    (λ _ h. absurd h)
    (λ k h. char_back (b ∷ []) (Plain b) p os r (sc, grind (arith, nat_tests), (λ x. grind (arith, nat_tests)), (λ x. grind (arith, nat_tests)), sym (encode_ascii b l)) h)))
  where
    P : Turn → Type 0
    P t = Done (moved (quoted p t) os) r

    F : ℕ → Type 0
    F c = Completes (now.Quoted p Between) os (c ∷ r)

    Q : Type 0
    Q = F b

    slash : Completes (now.Quoted p Escape) os r → Completes (now.Quoted p Between) os (92 ∷ r)
    slash (q, rest, (one, inside, c, cs, ic, ac, e1), a, e) = (92 ∷ q, rest, (92 ∷ one ++ inside, c ∷ cs, (92 ∷ one, inside, ic, ac, refl), ap (λ l. 92 ∷ l) (e1 ∙ sym (append_assoc one inside (34 ∷ [])))), a, ap (λ l. 92 ∷ l) e)

escape_back : (p : Purpose) (os : List Shape) (b : ℕ) (r : List ℕ) → Done (moved (quoted p (turn Escape b)) os) r → Completes (now.Quoted p Escape) os (b ∷ r)
escape_back p os b r = by_cond P Q (is_short b) _ _
    (λ e h. short e h)
    (λ _. by_cond P Q (eqb b 117) _ _
    (λ e h. at_byte (λ c. Completes (now.Quoted p Escape) os (c ∷ r)) b 117 e (unit h))
    (λ _ h. absurd h))
  where
    P : Turn → Type 0
    P t = Done (moved (quoted p t) os) r

    Q : Type 0
    Q = Completes (now.Quoted p Escape) os (b ∷ r)

    short : is_short b ≡ true → Completes (now.Quoted p Between) os r → Completes (now.Quoted p Escape) os (b ∷ r)
    short s (q, rest, (inside, cs, ac, e1), a, e) = (b ∷ q, rest, (b ∷ [], inside, Short b, cs, (short_letter b s, refl), ac, ap (λ l. b ∷ l) e1), a, ap (λ l. b ∷ l) e)

    unit : Completes (now.Quoted p (Hex 3)) os r → Completes (now.Quoted p Escape) os (117 ∷ r)
    unit (q, rest, (one, inside, cs, ah, ac, e1), a, e) = let u = unit_char one ah in
        (117 ∷ q, rest, (117 ∷ one, inside, Unit4 u.0, cs, u.1, ac, ap (λ l. 117 ∷ l) e1), a, ap (λ l. 117 ∷ l) e)

hex_back : (n : ℕ) (p : Purpose) (os : List Shape) (b : ℕ) (r : List ℕ) → Done (moved (quoted p (turn (Hex n) b)) os) r → Completes (now.Quoted p (Hex n)) os (b ∷ r)
hex_back zero p os b r = by_cond (λ t. Done (moved (quoted p t) os) r) (Completes (now.Quoted p (Hex zero)) os (b ∷ r)) (is_hex b) _ _ last (λ _ h. absurd h) where
  last : is_hex b ≡ true → Completes (now.Quoted p Between) os r → Completes (now.Quoted p (Hex zero)) os (b ∷ r)
  last s (q, rest, (inside, cs, ac, e1), a, e) = (b ∷ q, rest, (b ∷ [], inside, cs, ((hex_of b, hex_digit b s), refl), ac, ap (λ l. b ∷ l) e1), a, ap (λ l. b ∷ l) e)
hex_back (suc n) p os b r = by_cond (λ t. Done (moved (quoted p t) os) r) (Completes (now.Quoted p (Hex (suc n))) os (b ∷ r)) (is_hex b) _ _ more (λ _ h. absurd h) where
  more : is_hex b ≡ true → Completes (now.Quoted p (Hex n)) os r → Completes (now.Quoted p (Hex (suc n))) os (b ∷ r)
  more s (q, rest, (one, inside, cs, ah, ac, e1), a, e) = (b ∷ q, rest, (b ∷ one, inside, cs, ((hex_of b, hex_digit b s), ah), ac, ap (λ l. b ∷ l) e1), a, ap (λ l. b ∷ l) e)

quoted_back : (m : Mode) (p : Purpose) (os : List Shape) (b : ℕ) (r : List ℕ) → b < 128 → IsScalar b → Done (moved (quoted p (turn m b)) os) r → Completes (now.Quoted p m) os (b ∷ r)
quoted_back Between p os b r l s h = between_back p os b r l s h
quoted_back Escape p os b r l s h = escape_back p os b r h
quoted_back (Hex n) p os b r l s h = hex_back n p os b r h

-- ---- numbers

digit_of : (b : ℕ) → is_digit b ≡ true → IsDigit b
digit_of b h = grind (arith, nat_tests)

high_digit : (b : ℕ) → (leb 49 b && leb b 57) ≡ true → (0x31 ≤ b) × (b ≤ 0x39)
high_digit b h = grind (arith, nat_tests)

e_of : (b : ℕ) → is_e b ≡ true → IsE b
e_of b h = grind (arith, nat_tests)

sign_of : (b : ℕ) → (eqb b 45 || eqb b 43) ≡ true → IsSign (b ∷ [])
sign_of b h = grind (arith, nat_tests)

-- these bytes are the rest of a number behind a byte that goes on with it
abbrev InDigits : Option Digits → List ℕ → Type 0
InDigits None q = ⊥
InDigits (Some d) q = InNumber d q

exp_back : (b : ℕ) (q : List ℕ) → is_e b ≡ true → InNumber digits.E q → Exponent (b ∷ q)
exp_back b q h (sign, ds, s, some, e) = inr (record { e = b; sign = sign; digits = ds; is_e = e_of b h; is_sign = s; are_digits = some; whole = ap (λ l. b ∷ l) e })

point_back : (b : ℕ) (q : List ℕ) → InDigits (point b) q → Fraction (b ∷ q)
point_back b q = by_cond (λ o. InDigits o q) (Fraction (b ∷ q)) (eqb b 46) _ _ (λ e h. at_byte (λ c. Fraction (c ∷ q)) b 46 e (frac h))
    (λ _. by_cond (λ o. InDigits o q) (Fraction (b ∷ q)) (is_e b) _ _ (λ e h. ([], b ∷ q, inl refl, exp_back b q e h, refl)) (λ _ h. absurd h))
  where
    frac : InNumber digits.Point q → Fraction (46 ∷ q)
    frac (ds, rest, some, x, e) = (46 ∷ ds, rest, inr (refl, some), x, ap (λ l. 46 ∷ l) e)

exp_digit_back : (b : ℕ) (q : List ℕ) → InDigits (exp_digit b) q → AreDigits (b ∷ q)
exp_digit_back b q = by_cond (λ o. InDigits o q) (AreDigits (b ∷ q)) (is_digit b) _ _ (λ e h. (digit_of b e, h)) (λ _ h. absurd h)

digit_back : (d : Digits) (b : ℕ) (q : List ℕ) → InDigits (digit d b) q → InNumber d (b ∷ q)
digit_back digits.Minus b q = by_cond (λ o. InDigits o q) (InNumber digits.Minus (b ∷ q)) (eqb b 48) _ _
    (λ e h. at_byte (λ c. InNumber digits.Minus (c ∷ q)) b 48 e (48 ∷ [], q, inl (refl, refl), h, refl))
    (λ _. by_cond (λ o. InDigits o q) (InNumber digits.Minus (b ∷ q)) (leb 49 b && leb b 57) _ _ (λ e h. int (high_digit b e) h) (λ _ h. absurd h))
  where
    int : (0x31 ≤ b) × (b ≤ 0x39) → InNumber digits.Int q → InNumber digits.Minus (b ∷ q)
    int (l, m) (ds, rest, ad, f, e) = (b ∷ ds, rest, inr (l, m, ad), f, ap (λ l. b ∷ l) e)
digit_back digits.Zero b q = λ h. point_back b q h
digit_back digits.Int b q = by_cond (λ o. InDigits o q) (InNumber digits.Int (b ∷ q)) (is_digit b) _ _ (λ e h. more (digit_of b e) h) (λ _ h. ([], b ∷ q, tt, point_back b q h, refl)) where
  more : IsDigit b → InNumber digits.Int q → InNumber digits.Int (b ∷ q)
  more i (ds, rest, ad, f, e) = (b ∷ ds, rest, (i, ad), f, ap (λ l. b ∷ l) e)
digit_back digits.Point b q = by_cond (λ o. InDigits o q) (InNumber digits.Point (b ∷ q)) (is_digit b) _ _ (λ e h. more (digit_of b e) h) (λ _ h. absurd h) where
  more : IsDigit b → InNumber digits.Frac q → InNumber digits.Point (b ∷ q)
  more i (ds, rest, ad, f, e) = (b ∷ ds, rest, (i, ad), f, ap (λ l. b ∷ l) e)
digit_back digits.Frac b q = by_cond (λ o. InDigits o q) (InNumber digits.Frac (b ∷ q)) (is_digit b) _ _ (λ e h. more (digit_of b e) h)
    (λ _. by_cond (λ o. InDigits o q) (InNumber digits.Frac (b ∷ q)) (is_e b) _ _ (λ e h. ([], b ∷ q, tt, exp_back b q e h, refl)) (λ _ h. absurd h))
  where
    more : IsDigit b → InNumber digits.Frac q → InNumber digits.Frac (b ∷ q)
    more i (ds, rest, ad, f, e) = (b ∷ ds, rest, (i, ad), f, ap (λ l. b ∷ l) e)
digit_back digits.E b q = by_cond (λ o. InDigits o q) (InNumber digits.E (b ∷ q)) (eqb b 45 || eqb b 43) _ _
    (λ e h. (b ∷ [], q, inr (sign_of b e), h, refl))
    (λ _ h. ([], b ∷ q, inl refl, exp_digit_back b q h, refl))
digit_back digits.Sign b q = λ h. exp_digit_back b q h
digit_back digits.Exp b q = λ h. exp_digit_back b q h

-- where a number may end, nothing is left of it
pub number_nil : (d : Digits) → ends d ≡ true → InNumber d []
number_nil digits.Zero h = ([], [], inl refl, inl refl, refl)
number_nil digits.Int h = ([], [], tt, ([], [], inl refl, inl refl, refl), refl)
number_nil digits.Frac h = ([], [], tt, inl refl, refl)
number_nil digits.Exp h = tt
number_nil _ h = absurd (cc)

number_back : (d : Digits) (os : List Shape) (b : ℕ) (r : List ℕ) → Done (moved (number d (top os) b) os) r → Completes (now.Number d) os (b ∷ r)
number_back d os b r = by_digit (digit d b) refl where
  goes : (n : Digits) → digit d b ≡ Some n → Completes (now.Number n) os r → Completes (now.Number d) os (b ∷ r)
  goes n f (q, rest, i, a, e) = (b ∷ q, rest, digit_back d b q (subst (λ o. InDigits o q) (sym f) i), a, ap (λ l. b ∷ l) e)

  by_end : (t : Bool) → ends d ≡ t → Done (moved (number_end t (top os) b) os) r → Completes (now.Number d) os (b ∷ r)
  by_end true f h = ([], b ∷ r, number_nil d f, follow_back os b r h, refl)
  by_end false f h = absurd h

  by_digit : (o : Option Digits) → digit d b ≡ o → Done (moved (number_next o (ends d) (top os) b) os) r → Completes (now.Number d) os (b ∷ r)
  by_digit (Some n) f h = goes n f h
  by_digit None f h = by_end (ends d) refl h

-- ---- values and names

spelled_back : (l : Letters) (os : List Shape) (r : List ℕ) → Completes (after_letter l) os r → Completes (now.Word l) os (letter l ∷ r)
spelled_back letters.Rue os r (rest, a, e) = (rest, a, ap (λ l. 114 ∷ l) e)
spelled_back letters.Ue os r (rest, a, e) = (rest, a, ap (λ l. 117 ∷ l) e)
spelled_back letters.E os r a = (r, a, refl)
spelled_back letters.Alse os r (rest, a, e) = (rest, a, ap (λ l. 97 ∷ l) e)
spelled_back letters.Lse os r (rest, a, e) = (rest, a, ap (λ l. 108 ∷ l) e)
spelled_back letters.Se os r (rest, a, e) = (rest, a, ap (λ l. 115 ∷ l) e)
spelled_back letters.Ull os r (rest, a, e) = (rest, a, ap (λ l. 117 ∷ l) e)
spelled_back letters.Ll os r (rest, a, e) = (rest, a, ap (λ l. 108 ∷ l) e)
spelled_back letters.L os r a = (r, a, refl)

quote_value : (os : List Shape) (r : List ℕ) → Completes (now.Quoted purposes.Value Between) os r → AValue os (34 ∷ r)
quote_value os r (q, rest, (inside, cs, ac, e1), a, e) =
    ([], 34 ∷ q, rest, tt, (λ p. (Leaf (at p (34 ∷ q)) (Str cs), scalar (inside, ac, ap (λ l. 34 ∷ l) e1))), a, ap (λ l. 34 ∷ l) e)

number_value : (bs r rest : List ℕ) (os : List Shape) → IsNumber bs → After os rest → r ≡ bs ++ rest → AValue os r
number_value bs r rest os n a e = ([], bs, rest, tt, (λ p. (Leaf (at p bs) Num, scalar n)), a, e)

minus_value : (os : List Shape) (r : List ℕ) → Completes (now.Number digits.Minus) os r → AValue os (45 ∷ r)
minus_value os r (q, rest, (int, q2, i, (frac, exp, f, x, e3), e2), a, e) = number_value (45 ∷ q) (45 ∷ r) rest os
    (record { minus = 45 ∷ []; int = int; frac = frac; exp = exp; is_minus = inr refl; is_int = i; is_frac = f; is_exp = x; whole = ap (λ l. 45 ∷ l) (e2 ∙ ap (λ l. int ++ l) e3) }) a (ap (λ l. 45 ∷ l) e)

zero_value : (os : List Shape) (r : List ℕ) → Completes (now.Number digits.Zero) os r → AValue os (48 ∷ r)
zero_value os r (q, rest, (frac, exp, f, x, e3), a, e) = number_value (48 ∷ q) (48 ∷ r) rest os
    (record { minus = []; int = 48 ∷ []; frac = frac; exp = exp; is_minus = inl refl; is_int = inl (refl, refl); is_frac = f; is_exp = x; whole = ap (λ l. 48 ∷ l) e3 }) a (ap (λ l. 48 ∷ l) e)

int_value : (b : ℕ) (os : List Shape) (r : List ℕ) → (0x31 ≤ b) × (b ≤ 0x39) → Completes (now.Number digits.Int) os r → AValue os (b ∷ r)
int_value b os r (l, m) (q, rest, (ds, q2, ad, (frac, exp, f, x, e3), e2), a, e) = number_value (b ∷ q) (b ∷ r) rest os
    (record { minus = []; int = b ∷ ds; frac = frac; exp = exp; is_minus = inl refl; is_int = inr (l, m, ad); is_frac = f; is_exp = x; whole = ap (λ l. b ∷ l) (e2 ∙ ap (λ l. ds ++ l) e3) }) a (ap (λ l. b ∷ l) e)

true_value : (os : List Shape) (r : List ℕ) → Completes (now.Word letters.Rue) os r → AValue os (116 ∷ r)
true_value os r (rest, a, e) = ([], codes "true", rest, tt, (λ p. (Leaf (at p (codes "true")) True, scalar refl)), a, ap (λ l. 116 ∷ l) e)

false_value : (os : List Shape) (r : List ℕ) → Completes (now.Word letters.Alse) os r → AValue os (102 ∷ r)
false_value os r (rest, a, e) = ([], codes "false", rest, tt, (λ p. (Leaf (at p (codes "false")) False, scalar refl)), a, ap (λ l. 102 ∷ l) e)

null_value : (os : List Shape) (r : List ℕ) → Completes (now.Word letters.Ull) os r → AValue os (110 ∷ r)
null_value os r (rest, a, e) = ([], codes "null", rest, tt, (λ p. (Leaf (at p (codes "null")) Null, scalar refl)), a, ap (λ l. 110 ∷ l) e)

begin_back : (os : List Shape) (b : ℕ) (r : List ℕ) → Done (moved (to (begin b)) os) r → AValue os (b ∷ r)
begin_back os b r =
    by_cond P Q (eqb b 34) _ _ (λ e h. at_byte F b 34 e (quote_value os r h))
    (λ _. by_cond P Q (eqb b 45) _ _ (λ e h. at_byte F b 45 e (minus_value os r h))
    (λ _. by_cond P Q (eqb b 48) _ _ (λ e h. at_byte F b 48 e (zero_value os r h))
    (λ _. by_cond P Q (leb 49 b && leb b 57) _ _ (λ e h. int_value b os r (high_digit b e) h)
    (λ _. by_cond P Q (eqb b 116) _ _ (λ e h. at_byte F b 116 e (true_value os r h))
    (λ _. by_cond P Q (eqb b 102) _ _ (λ e h. at_byte F b 102 e (false_value os r h))
    (λ _. by_cond P Q (eqb b 110) _ _ (λ e h. at_byte F b 110 e (null_value os r h))
    (λ _. by_cond P Q (eqb b 91) _ _ (λ e h. at_byte F b 91 e (bracket_back os r h))
    (λ _. by_cond P Q (eqb b 123) _ _ (λ e h. at_byte F b 123 e (brace_back os r h))
    (λ _ h. absurd h)))))))))
  where
    P : Option Now → Type 0
    P o = Done (moved (to o) os) r

    F : ℕ → Type 0
    F c = AValue os (c ∷ r)

    Q : Type 0
    Q = F b

into_is : (o : Option Now) (os : List Shape) → moved (into_array o) os ≡ moved (to o) (shapes.Array ∷ os)
into_is None os = refl
into_is (Some n) os = refl

name_back : (os : List Shape) (b : ℕ) (r : List ℕ) → Done (moved (name b) os) r → AName os (b ∷ r)
name_back os b r = by_cond (λ m. Done (moved m os) r) (AName os (b ∷ r)) (eqb b 34) _ _ (λ e h. at_byte (λ c. AName os (c ∷ r)) b 34 e (quote h)) (λ _ h. absurd h) where
  quote : Completes (now.Quoted purposes.Name Between) os r → AName os (34 ∷ r)
  quote (q, rest, (inside, cs, ac, e1), a, e) = ([], 34 ∷ q, rest, cs, tt, (inside, ac, ap (λ l. 34 ∷ l) e1), a, ap (λ l. 34 ∷ l) e)

-- one ASCII byte
pub byte_back : (n : Now) (os : List Shape) (b : ℕ) (r : List ℕ) → b < 128 → IsScalar b → Done (step (state n os) b) r → Completes n os (b ∷ r)
byte_back now.Value os b r l s = by_cond (λ m. Done (moved m os) r) (AValue os (b ∷ r)) (is_blank b) _ _ (λ e h. value_blank b os r (blank_of b e) h) (λ _ h. begin_back os b r h)
byte_back now.FirstValue os b r l s = by_cond (λ m. Done (moved m os) r) (Completes now.FirstValue os (b ∷ r)) (is_blank b) _ _ (λ e h. blank (blank_of b e) h)
    (λ _. by_cond (λ m. Done (moved m os) r) (Completes now.FirstValue os (b ∷ r)) (eqb b 93) _ _
    (λ e h. at_byte (λ c. Completes now.FirstValue os (c ∷ r)) b 93 e (inl ([], r, tt, h, refl)))
    (λ _ h. inr (begin_back (shapes.Array ∷ os) b r (subst (λ o. Done o r) (into_is (begin b) os) h))))
  where
    blank : IsBlank b → Completes now.FirstValue os r → Completes now.FirstValue os (b ∷ r)
    blank i (inl x) = inl (empty_blank 93 b os r i x)
    blank i (inr x) = inr (value_blank b (shapes.Array ∷ os) r i x)
byte_back now.Name os b r l s = by_cond (λ m. Done (moved m os) r) (AName os (b ∷ r)) (is_blank b) _ _ (λ e h. name_blank b os r (blank_of b e) h) (λ _ h. name_back os b r h)
byte_back now.FirstName os b r l s = by_cond (λ m. Done (moved m os) r) (Completes now.FirstName os (b ∷ r)) (is_blank b) _ _ (λ e h. blank (blank_of b e) h)
    (λ _. by_cond (λ m. Done (moved m os) r) (Completes now.FirstName os (b ∷ r)) (eqb b 125) _ _
    (λ e h. at_byte (λ c. Completes now.FirstName os (c ∷ r)) b 125 e (inl ([], r, tt, h, refl)))
    (λ _ h. inr (name_back os b r h)))
  where
    blank : IsBlank b → Completes now.FirstName os r → Completes now.FirstName os (b ∷ r)
    blank i (inl x) = inl (empty_blank 125 b os r i x)
    blank i (inr x) = inr (name_blank b os r i x)
byte_back now.Colon os b r l s = by_cond (λ m. Done (moved m os) r) (AColon os (b ∷ r)) (is_blank b) _ _ (λ e h. colon_blank b os r (blank_of b e) h)
    (λ _. by_cond (λ m. Done (moved m os) r) (AColon os (b ∷ r)) (eqb b 58) _ _ (λ e h. at_byte (λ c. AColon os (c ∷ r)) b 58 e ([], r, tt, h, refl)) (λ _ h. absurd h))
byte_back now.Next os b r l s = λ h. follow_back os b r h
byte_back (now.Quoted p m) os b r l s = λ h. quoted_back m p os b r l s h
byte_back (now.Number d) os b r l s = λ h. number_back d os b r h
byte_back (now.Word w) os b r l s = by_cond (λ m. Done (moved m os) r) (Completes (now.Word w) os (b ∷ r)) (eqb b (letter w)) _ _
    (λ e h. at_byte (λ c. Completes (now.Word w) os (c ∷ r)) b (letter w) e (spelled_back w os r h)) (λ _ h. absurd h)
