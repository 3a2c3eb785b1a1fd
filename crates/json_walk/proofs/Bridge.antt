-- The places of a text and the grammar.
use Rattle.json_text.proofs.Names.{◌≡◌, ◌≢◌, ℕ, zero, suc, ◌+◌, ◌-◌, ◌<◌, ◌≤◌, inl, inr, Bool, true, false, not, ◌&&◌, List, [], ◌∷◌, ◌++◌}
use Rattle.json_text.proofs.Names.{length, get_or, drop, Some, refl, sym, ap, subst, ◌∙◌, arith, IsTrue, append_assoc, length-append, add-one, nat_lt}
use Rattle.json_text.proofs.Names.{IsUtf8, cases_lt, cases_Bool, false≢true, IsShort, nat_tests, IsCharBoundary-after_ascii, Spelt, Plain, Short, Unit4, IsBlank}
use Rattle.json_text.proofs.Names.{IsHexDigit, IsChar, AreChars, IsString, Atom, class, AreAtoms, NoAtomFirst, IsToken, sign, text}
use Rattle.json_text.proofs.Names.{word, sign_at, IsWord, Token, turn, string_end}
use Rattle.json_walk.proofs.Names.{IsNumber, op_byte, blank_byte, byte, is_inside, HasControlInside, IsSpan, IsSeam, is_plain_atom, Kind, Between}
use Rattle.std.proofs.Common.{◌==◌, drop-cons, eqb, cond, ◌||◌}
use Rattle.std.proofs.lemmas.Str.{IsUtf8-drop}
use Rattle.decimal_order.specs.Number.{IsDigit, AreDigits, Optional, IsInt, IsFrac, IsExp}
use Rattle.structural_index.specs.Places.{is_escaped, is_real_quote, is_opening, is_short, is_hex, are_digits, is_unit, is_wrong, HasWrongEscape}
use Rattle.structural_index.proofs.Steps.{escaped_suc}
use Rattle.structural_index.proofs.Seams as seams
use Rattle.json_text.specs.Tokens.{is_sign}
use Rattle.json_text.specs.Scanning.{next_of}
use Rattle.json_text.specs.declared.modes.Mode.{Mode}
use Rattle.json_text.specs.declared.modes.Mode.TheVariants.{Escape, Hex}
use Rattle.json_text.specs.declared.modes.Turn.TheVariants.{Stop, Fail, Go}
use Rattle.json_walk.specs.Bridge.{SameClasses, SpellsString, IsOnePlace}
use Rattle.json_text.proofs.Strings.{ArePlain, plain_bytes, string_found}
use Rattle.std.proofs.Math.Bool.{and-false}

-- ---- classes of bytes

pub blank_from : (b : ℕ) → IsBlank b → blank_byte b ≡ true
blank_from b h = grind (arith, nat_tests)

same_sign : (b : ℕ) → op_byte b ≡ is_sign b
same_sign b = grind (arith, nat_tests)

atom_to : (b : ℕ) → is_plain_atom b ≡ true → class b ≡ Atom
atom_to b h = grind (arith, nat_tests)

atom_from : (b : ℕ) → class b ≡ Atom → is_plain_atom b ≡ true
atom_from b h = grind (arith, nat_tests)

atom_none : (b : ℕ) → class b ≢ Atom → is_plain_atom b ≡ false
atom_none b h = elim (cases_Bool (is_plain_atom b)) [ inl e ↦ absurd (h (atom_to b e)) | inr e ↦ e ]

-- ---- the text from a place on, as a list

pub record Uncons (bytes : List ℕ) (i b : ℕ) (bs : List ℕ) : Type 0 where
  pub here : byte bytes i ≡ b
  pub left : drop (suc i) bytes ≡ bs
  pub within : i < length bytes

pub uncons : (bytes : List ℕ) (i b : ℕ) (bs : List ℕ) → drop i bytes ≡ b ∷ bs → Uncons bytes i b bs
uncons [] zero b bs e = absurd (cc)
uncons [] (suc i) b bs e = absurd (cc)
uncons (x ∷ xs) zero b bs e = record { here = cc; left = cc; within = omega arith }
uncons (x ∷ xs) (suc i) b bs e = let u = uncons xs i b bs e in let l = u.within in record { here = u.here; left = u.left; within = omega arith }

pub drop_past : (bytes : List ℕ) (i : ℕ) (vs rest : List ℕ) → drop i bytes ≡ vs ++ rest → drop (i + length vs) bytes ≡ rest
drop_past bytes i [] rest e = let f : i + 0 ≡ i = omega arith in ap (λ n. drop n bytes) f ∙ e
drop_past bytes i (v ∷ vs) rest e = grind (arith, drop_past bytes (suc i) vs rest (uncons bytes i v (vs ++ rest) e).left)

abbrev pub Each : (ℕ → Type 0) → List ℕ → Type 0
Each P [] = Unit {0}
Each P (b ∷ bs) = P b × Each P bs

pub each_append : (P : ℕ → Type 0) (xs bs : List ℕ) → Each P xs → Each P bs → Each P (xs ++ bs)
each_append P [] bs h g = g
each_append P (x ∷ xs) bs h g = (h.0, each_append P xs bs h.1 g)

pub stands : (P : ℕ → Type 0) (bytes : List ℕ) (i : ℕ) (vs rest : List ℕ) → Each P vs → drop i bytes ≡ vs ++ rest → (k : ℕ) → i ≤ k → k < i + length vs → P (byte bytes k)
stands P bytes i [] rest h e k a b = absurd (omega arith)
stands P bytes i (v ∷ vs) rest h e k a b = let u = uncons bytes i v (vs ++ rest) e in elim (cases_lt i k) [
  | inl l ↦ stands P bytes (suc i) vs rest h.1 u.left k (omega arith) (omega arith)
  | inr l ↦ (let f : k ≡ i = omega arith in subst P (sym (ap (byte bytes) f ∙ u.here)) h.0)
]

-- ---- a string of the grammar has no real quote inside

-- over n bytes from k on there is no real quote and no wrong escape, and what follows is not escaped
record Passed (bytes : List ℕ) (k n : ℕ) (rest : List ℕ) : Type 0 where
  no_quote : (m : ℕ) → k ≤ m → m < k + n → is_real_quote bytes m ≡ false
  right : (m : ℕ) → k < m → m ≤ k + n → is_wrong bytes m ≡ false
  free : is_escaped bytes (k + n) ≡ false
  left : drop (k + n) bytes ≡ rest

passed_both : (bytes : List ℕ) (k m n : ℕ) (bs rest : List ℕ) → Passed bytes k m bs → Passed bytes (k + m) n rest → Passed bytes k (m + n) rest
passed_both bytes k m n bs rest f g = let e : k + (m + n) ≡ k + m + n = omega arith in record {
  no_quote = λ x a c. elim (cases_lt x (k + m)) [ inl l ↦ f.no_quote x a l | inr l ↦ g.no_quote x l (omega arith) ];
  right = λ x a c. elim (cases_lt (k + m) x) [ inl l ↦ g.right x l (omega arith) | inr l ↦ f.right x a l ];
  free = ap (is_escaped bytes) e ∙ g.free;
  left = ap (λ y. drop y bytes) e ∙ g.left;
}

passed_none : (bytes : List ℕ) (k : ℕ) (rest : List ℕ) → is_escaped bytes k ≡ false → drop k bytes ≡ rest → Passed bytes k 0 rest
passed_none bytes k rest f e = grind arith

-- what is not escaped is no wrong escape
right_free : (bytes : List ℕ) (k : ℕ) → is_escaped bytes k ≡ false → is_wrong bytes k ≡ false
right_free bytes k f = ap (λ x. x && not (is_short (byte bytes k) || is_unit bytes k)) f

-- nor is a byte behind one that is no backslash
pub right_behind : (bytes : List ℕ) (k : ℕ) → (byte bytes k == 92) ≡ false → is_wrong bytes (suc k) ≡ false
right_behind bytes k s = right_free bytes (suc k) (escaped_suc bytes k ∙ ap (λ x. x && not (is_escaped bytes k)) s)

passed_one : (bytes : List ℕ) (k b : ℕ) (bs : List ℕ) → is_escaped bytes k ≡ false → drop k bytes ≡ b ∷ bs → (b == 34) ≡ false → (b == 92) ≡ false → Passed bytes k 1 bs
passed_one bytes k b bs f e q s = let u = uncons bytes k b bs e in let n : k + 1 ≡ suc k = omega arith in
    let r : is_real_quote bytes k ≡ false = ap (λ x. (x == 34) && not (is_escaped bytes k)) u.here ∙ ap (λ x. x && not (is_escaped bytes k)) q in
    let w = right_behind bytes k (ap (λ x. x == 92) u.here ∙ s) in
    record { no_quote = λ m a c. grind arith; right = λ m a c. (let g : m ≡ suc k = omega arith in ap (is_wrong bytes) g ∙ w); free = grind (arith, escaped_suc); left = grind arith }

-- a backslash and what it escapes
passed_two : (bytes : List ℕ) (k l : ℕ) (bs : List ℕ) → is_escaped bytes k ≡ false → drop k bytes ≡ 92 ∷ l ∷ bs → (is_short l || is_unit bytes (suc k)) ≡ true → Passed bytes k 2 bs
passed_two bytes k l bs f e known = let u = uncons bytes k 92 (l ∷ bs) e in let v = uncons bytes (suc k) l bs u.left in
    let n : k + 2 ≡ suc (suc k) = omega arith in let r : is_real_quote bytes k ≡ false = ap (λ x. (x == 34) && not (is_escaped bytes k)) u.here in
    let t : is_escaped bytes (suc k) ≡ true = escaped_suc bytes k ∙ ap (λ x. (x == 92) && not (is_escaped bytes k)) u.here ∙ ap not f in
    let w : is_wrong bytes (suc k) ≡ false = ap (λ x. x && not (is_short (byte bytes (suc k)) || is_unit bytes (suc k))) t ∙ ap not (ap (λ x. is_short x || is_unit bytes (suc k)) v.here ∙ known) in
    let free : is_escaped bytes (suc (suc k)) ≡ false = escaped_suc bytes (suc k) ∙ ap (λ y. (byte bytes (suc k) == 92) && not y) t ∙ and-false (byte bytes (suc k) == 92) in record {
      no_quote = λ m a c. elim (cases_lt k m) [ inl x ↦ search (arith, and-false) | inr x ↦ search arith ];
      right = λ m a c. elim (cases_lt (suc k) m) [
        | inl x ↦ (let g : m ≡ suc (suc k) = omega arith in ap (is_wrong bytes) g ∙ right_free bytes (suc (suc k)) free)
        | inr x ↦ (let g : m ≡ suc k = omega arith in ap (is_wrong bytes) g ∙ w)
      ];
      free = ap (is_escaped bytes) n ∙ free;
      left = ap (λ x. drop x bytes) n ∙ v.left;
    }

turn_plain : (b : ℕ) → turn Between b ≡ Go Between → ((b == 34) ≡ false) × ((b == 92) ≡ false)
turn_plain b h = (grind (arith, nat_tests), grind (arith, nat_tests))

passed_plain : (bytes : List ℕ) (k : ℕ) (bs rest : List ℕ) → is_escaped bytes k ≡ false → drop k bytes ≡ bs ++ rest → ArePlain bs → Passed bytes k (length bs) rest
passed_plain bytes k [] rest f e h = passed_none bytes k rest f e
passed_plain bytes k (b ∷ bs) rest f e h =
    let t = turn_plain b h.0 in let one = passed_one bytes k b (bs ++ rest) f e t.0 t.1 in let n : 1 + length bs ≡ suc (length bs) = omega arith in
    subst (λ m. Passed bytes k m rest) n (passed_both bytes k 1 (length bs) (bs ++ rest) rest one (passed_plain bytes (k + 1) bs rest one.free one.left h.1))

hex_plain : (b n : ℕ) → IsHexDigit b n → turn Between b ≡ Go Between
hex_plain b n h = grind (arith, nat_tests)

pub hex_known : (b n : ℕ) → IsHexDigit b n → is_hex b ≡ true
hex_known b n h = grind (arith, nat_tests)

short_known : (l : ℕ) (u : Bool) → IsShort l → (is_short l || u) ≡ true
short_known l u h = grind (arith, nat_tests)

pub unit_known : (bytes : List ℕ) (k : ℕ) → byte bytes k ≡ 117 → is_hex (byte bytes (k + 1)) ≡ true → is_hex (byte bytes (k + 2)) ≡ true → is_hex (byte bytes (k + 3)) ≡ true → is_hex (byte bytes (k + 4)) ≡ true → (is_short 117 || is_unit bytes k) ≡ true
unit_known bytes k e a b c d = all (eqb (byte bytes k) 117) _ _ _ _ (ap (λ x. eqb x 117) e) a b c d
  where
    all : (t a b c d : Bool) → t ≡ true → a ≡ true → b ≡ true → c ≡ true → d ≡ true → (false || (t && (a && b && c && d))) ≡ true
    all t a b c d h i j k l = grind arith

passed_char : (bytes : List ℕ) (k : ℕ) (c : Spelt) (one rest : List ℕ) → is_escaped bytes k ≡ false → drop k bytes ≡ one ++ rest → IsChar one c → Passed bytes k (length one) rest
passed_char bytes k (Plain c) one rest f e (s, h, n, m, is) = passed_plain bytes k one rest f e (subst ArePlain (sym is) (plain_bytes c h n m))
passed_char bytes k (Short l) one rest f e (h, is) = subst (λ o. Passed bytes k (length o) rest) (sym is) (passed_two bytes k l rest f (e ∙ ap (λ o. o ++ rest) is) (short_known l (is_unit bytes (suc k)) h))
passed_char bytes k (Unit4 u) one rest f e (a, b, c, d, x, y, z, w, ha, hb, hc, hd, eu, is) =
    let split = e ∙ ap (λ o. o ++ rest) is in let u = uncons bytes k 92 (117 ∷ a ∷ b ∷ c ∷ d ∷ rest) split in let v = uncons bytes (suc k) 117 (a ∷ b ∷ c ∷ d ∷ rest) u.left in
    let hex = stands (λ o. is_hex o ≡ true) bytes (suc (suc k)) (a ∷ b ∷ c ∷ d ∷ []) rest (hex_known a x ha, (hex_known b y hb, (hex_known c z hc, (hex_known d w hd, tt)))) v.left in
    let two = passed_two bytes k 117 (a ∷ b ∷ c ∷ d ∷ rest) f split (unit_known bytes (suc k) v.here (hex (suc k + 1) (omega arith) (omega arith)) (hex (suc k + 2) (omega arith) (omega arith)) (hex (suc k + 3) (omega arith) (omega arith)) (hex (suc k + 4) (omega arith) (omega arith))) in
    let four = passed_plain bytes (k + 2) (a ∷ b ∷ c ∷ d ∷ []) rest two.free two.left (hex_plain a x ha, (hex_plain b y hb, (hex_plain c z hc, (hex_plain d w hd, tt)))) in
    subst (λ o. Passed bytes k (length o) rest) (sym is) (passed_both bytes k 2 4 (a ∷ b ∷ c ∷ d ∷ rest) rest two four)

passed_chars : (bytes : List ℕ) (k : ℕ) (cs : List Spelt) (inside rest : List ℕ) → is_escaped bytes k ≡ false → drop k bytes ≡ inside ++ rest → AreChars inside cs → Passed bytes k (length inside) rest
passed_chars bytes k [] inside rest f e h = grind arith
passed_chars bytes k (c ∷ cs) inside rest f e (one, others, h, hs, is) =
    let first = passed_char bytes k c one (others ++ rest) f (e ∙ ap (λ l. l ++ rest) is ∙ append_assoc one others rest) h in
    let later = passed_chars bytes (k + length one) cs others rest first.free first.left hs in
    let both = passed_both bytes k (length one) (length others) (others ++ rest) rest first later in rw (ap length is ∙ length-append one others) both

-- the law of strings
pub string_ends : (bytes : List ℕ) (i j : ℕ) (vs rest : List ℕ) (cs : List Spelt) → drop i bytes ≡ vs ++ rest → IsString vs cs → IsTrue (is_opening bytes i) → suc j ≡ i + length vs → IsSpan bytes i j
string_ends bytes i j vs rest cs e (inside, h, is) o l = let real = seams.and_first (is_real_quote bytes i) (not (is_inside bytes i)) o in
    let here = seams.real_quote_byte bytes i real in
    let split : drop i bytes ≡ 34 ∷ (inside ++ (34 ∷ rest)) = e ∙ ap (λ x. x ++ rest) is ∙ ap (λ x. 34 ∷ x) (append_assoc inside (34 ∷ []) rest) in
    let u = uncons bytes i 34 (inside ++ (34 ∷ rest)) split in
    let free : is_escaped bytes (suc i) ≡ false = escaped_suc bytes i ∙ ap (λ x. (x == 92) && not (is_escaped bytes i)) here in
    let p = passed_chars bytes (suc i) cs inside (34 ∷ rest) free u.left h in
    let size : length vs ≡ suc (length inside + 1) = ap length is ∙ ap suc (length-append inside (34 ∷ [])) in
    let at : suc i + length inside ≡ j = omega arith in let v = uncons bytes (suc i + length inside) 34 rest p.left in let w = v.within in
    grind (arith, real, here, split, u, free, p, size, at, v, w)

-- and has no wrong escape
pub string_right : (bytes : List ℕ) (i : ℕ) (vs rest : List ℕ) (cs : List Spelt) → drop i bytes ≡ vs ++ rest → IsString vs cs → (m : ℕ) → i < m → m ≤ i + length vs → is_wrong bytes m ≡ false
string_right bytes i vs rest cs e (inside, h, is) m a c =
    let split : drop i bytes ≡ 34 ∷ (inside ++ (34 ∷ rest)) = e ∙ ap (λ x. x ++ rest) is ∙ ap (λ x. 34 ∷ x) (append_assoc inside (34 ∷ []) rest) in
    let u = uncons bytes i 34 (inside ++ (34 ∷ rest)) split in
    let free : is_escaped bytes (suc i) ≡ false = escaped_suc bytes i ∙ ap (λ x. (x == 92) && not (is_escaped bytes i)) u.here in
    let p = passed_chars bytes (suc i) cs inside (34 ∷ rest) free u.left h in
    let size : length vs ≡ suc (length inside + 1) = ap length is ∙ ap suc (length-append inside (34 ∷ [])) in
    let v = uncons bytes (suc i + length inside) 34 rest p.left in
    elim (cases_lt (suc i + length inside) m) [
      | inl x ↦ (let g : m ≡ suc (suc i + length inside) = omega arith in ap (is_wrong bytes) g ∙ right_behind bytes (suc i + length inside) (ap (λ x. x == 92) v.here))
      | inr x ↦ elim (cases_lt (suc i) m) [
        | inl y ↦ p.right m y x
        | inr y ↦ (let g : m ≡ suc i = omega arith in ap (is_wrong bytes) g ∙ right_free bytes (suc i) free)
      ]
    ]

-- ---- where no escape is wrong and no control character stands inside, bytes between quotes spell a string

-- no byte of it is a control character
pub control_out : (bytes : List ℕ) (i j : ℕ) → (HasControlInside bytes → ⊥) → IsSpan bytes i j → (m : ℕ) → i < m → m < j → nat_lt (byte bytes m) 32 ≡ false
control_out bytes i j c s m a b = by_control (nat_lt (byte bytes m) 32) refl where
  by_control : (t : Bool) → nat_lt (byte bytes m) 32 ≡ t → nat_lt (byte bytes m) 32 ≡ false
  by_control true q = let within = s.within in let inside = seams.inside_at bytes i j s m a (omega arith) in grind arith
  by_control false q = q

pub same_default : (xs : List ℕ) (k : ℕ) → k < length xs → get_or xs k 0 ≡ byte xs k
same_default [] k l = absurd (omega arith)
same_default (x ∷ xs) zero l = refl
same_default (x ∷ xs) (suc k) l = same_default xs k (omega arith)

-- where a scan stands so at byte k, this is known of it
abbrev Fits : List ℕ → Mode → ℕ → Type 0
Fits bytes Between k = is_escaped bytes k ≡ false
Fits bytes Escape k = is_escaped bytes k ≡ true
Fits bytes (Hex r) k = (is_escaped bytes k ≡ false) × ((d : ℕ) → d ≤ r → is_hex (byte bytes (k + d)) ≡ true)

no_slash_hex : (b : ℕ) → is_hex b ≡ true → (b == 92) ≡ false
no_slash_hex b h = grind (arith, nat_tests)

no_quote_hex : (b : ℕ) → b ≡ 34 → is_hex b ≡ true → ⊥
no_quote_hex b q h = false≢true (sym (ap is_hex q) ∙ h)

quote_out : (a e : Bool) → (a && not e) ≡ false → e ≡ false → a ≡ false
quote_out x0 e h f = grind (arith, h, f)

or_second : (a b : Bool) → a ≡ false → (a || b) ≡ true → b ≡ true
or_second a b e h = grind arith

module _ (bytes : List ℕ) (i j : ℕ) (utf : IsUtf8 bytes) (c : HasControlInside bytes → ⊥) (w : HasWrongEscape bytes → ⊥) (s : IsSpan bytes i j) where
  known : (k : ℕ) → is_escaped bytes k ≡ true → (is_short (byte bytes k) || is_unit bytes k) ≡ true
  known k t = by_known (is_short (byte bytes k) || is_unit bytes k) refl where
    by_known : (b : Bool) → (is_short (byte bytes k) || is_unit bytes k) ≡ b → (is_short (byte bytes k) || is_unit bytes k) ≡ true
    by_known true e = e
    by_known false e = absurd (w (k, ap (λ x. x && not (is_short (byte bytes k) || is_unit bytes k)) t ∙ ap not e))

  behind : (k : ℕ) (b : Bool) → (byte bytes k == 92) ≡ b → is_escaped bytes (suc k) ≡ (b && not (is_escaped bytes k))
  behind k b e = escaped_suc bytes k ∙ ap (λ x. x && not (is_escaped bytes k)) e

  abbrev Turns : Mode → ℕ → Type 0
  Turns m k = (n : Mode) × (turn m (byte bytes k) ≡ Go n) × Fits bytes n (suc k)

  turns : (m : Mode) (k : ℕ) → i < k → k < j → Fits bytes m k → Turns m k
  turns Between k a b f = by_slash (byte bytes k == 92) refl where
    quote : (byte bytes k == 34) ≡ false
    quote = quote_out _ _ (s.between k a b) f

    by_slash : (t : Bool) → (byte bytes k == 92) ≡ t → Turns Between k
    by_slash true e = (Escape, ap (λ x. cond x Stop (cond (eqb (byte bytes k) 92) (Go Escape) (cond (nat_lt (byte bytes k) 32) Fail (Go Between)))) quote ∙ ap (λ x. cond x (Go Escape) (cond (nat_lt (byte bytes k) 32) Fail (Go Between))) e, behind k true e ∙ ap not f)
    by_slash false e = (
      Between,
      ap (λ x. cond x Stop (cond (eqb (byte bytes k) 92) (Go Escape) (cond (nat_lt (byte bytes k) 32) Fail (Go Between)))) quote ∙ ap (λ x. cond x (Go Escape) (cond (nat_lt (byte bytes k) 32) Fail (Go Between))) e ∙ ap (λ x. cond x Fail (Go Between)) (control_out bytes i j c s k a b),
      behind k false e,
    )
  turns Escape k a b f = by_short (is_short (byte bytes k)) refl where
    free : is_escaped bytes (suc k) ≡ false
    free = behind k (byte bytes k == 92) refl ∙ ap (λ x. (byte bytes k == 92) && not x) f ∙ and-false (byte bytes k == 92)

    by_short : (t : Bool) → is_short (byte bytes k) ≡ t → Turns Escape k
    by_short true e = (Between, ap (λ x. cond x (Go Between) (cond (eqb (byte bytes k) 117) (Go (Hex 3)) Fail)) e, free)
    by_short false e = let unit = or_second _ _ e (known k f) in let letter = seams.and_first _ _ unit in let digits = seams.and_second _ _ unit in
        (Hex 3, ap (λ x. cond x (Go Between) (cond (eqb (byte bytes k) 117) (Go (Hex 3)) Fail)) e ∙ ap (λ x. cond x (Go (Hex 3)) Fail) letter, (free, each digits))
      where
        each : are_digits bytes k ≡ true → (d : ℕ) → d ≤ 3 → is_hex (byte bytes (suc k + d)) ≡ true
        each h zero l = let z : suc k + 0 ≡ k + 1 = omega arith in ap (λ x. is_hex (byte bytes x)) z ∙ seams.and_first _ _ (seams.and_first _ _ (seams.and_first _ _ h))
        each h (suc zero) l = let z : suc k + 1 ≡ k + 2 = omega arith in ap (λ x. is_hex (byte bytes x)) z ∙ seams.and_second _ _ (seams.and_first _ _ (seams.and_first _ _ h))
        each h (suc (suc zero)) l = let z : suc k + 2 ≡ k + 3 = omega arith in ap (λ x. is_hex (byte bytes x)) z ∙ seams.and_second _ _ (seams.and_first _ _ h)
        each h (suc (suc (suc zero))) l = let z : suc k + 3 ≡ k + 4 = omega arith in ap (λ x. is_hex (byte bytes x)) z ∙ seams.and_second _ _ h
        each h (suc (suc (suc (suc d)))) l = absurd (omega arith)
  turns (Hex zero) k a b (f, h) = let z : k + 0 ≡ k = omega arith in let hex = ap (λ x. is_hex (byte bytes x)) (sym z) ∙ h 0 (omega arith) in
      (Between, ap (λ x. cond x (Go Between) Fail) hex, behind k false (no_slash_hex (byte bytes k) hex))
  turns (Hex (suc r)) k a b (f, h) = let z : k + 0 ≡ k = omega arith in let hex = ap (λ x. is_hex (byte bytes x)) (sym z) ∙ h 0 (omega arith) in
      (Hex r, ap (λ x. cond x (Go (Hex r)) Fail) hex, (behind k false (no_slash_hex (byte bytes k) hex), λ d l. (let y : suc k + d ≡ k + suc d = omega arith in ap (λ x. is_hex (byte bytes x)) y ∙ h (suc d) (omega arith))))

  closing : (byte bytes j ≡ 34) × (is_escaped bytes j ≡ false)
  closing = let q = seams.real_quote_byte bytes j s.closing in let r = s.closing in (q, grind arith)

  last : (m : Mode) → Fits bytes m j → turn m (byte bytes j) ≡ Stop
  last Between f = ap (turn Between) closing.0
  last Escape f = absurd (false≢true (sym closing.1 ∙ f))
  last (Hex r) (f, h) = let z : j + 0 ≡ j = omega arith in absurd (no_quote_hex (byte bytes j) closing.0 (ap (λ x. is_hex (byte bytes x)) (sym z) ∙ h 0 (omega arith)))

  scan : (n k : ℕ) (m : Mode) → k + n ≡ j → i < k → Fits bytes m k → string_end m k (drop k bytes) ≡ Some (j + 1)
  scan zero k m e a f = let within = s.within in let g : k ≡ j = omega arith in
      ap (string_end m k) (drop-cons bytes k 32 (omega arith)) ∙ ap (λ t. next_of t (k + 1) (λ n. string_end n (k + 1) (drop (suc k) bytes))) (ap (λ x. turn m (byte bytes x)) g ∙ last m (subst (Fits bytes m) g f)) ∙ ap (λ x. Some (x + 1)) g
  scan (suc n) k m e a f = let within = s.within in let t = turns m k a (omega arith) f in
      ap (string_end m k) (drop-cons bytes k 32 (omega arith)) ∙ ap (λ u. next_of u (k + 1) (λ n. string_end n (k + 1) (drop (suc k) bytes))) t.1 ∙ ap (λ x. string_end t.0 x (drop (suc k) bytes)) (add-one k) ∙ scan n (suc k) t.0 (omega arith) (omega arith) t.2

  pub span_spells : SpellsString bytes i j
  span_spells = let within = s.within in let after = s.after in
      let here = seams.real_quote_byte bytes i (seams.and_first (is_real_quote bytes i) (not (is_inside bytes i)) s.opening) in
      let zero_at : get_or bytes i 0 ≡ 34 = same_default bytes i (omega arith) ∙ here in
      let utf8 : IsUtf8 (drop (i + 1) bytes) = IsUtf8-drop bytes (i + 1) utf (IsCharBoundary-after_ascii bytes i utf (omega arith) (omega arith)) in
      let z : suc i ≡ i + 1 = omega arith in
      let free : is_escaped bytes (i + 1) ≡ false = ap (is_escaped bytes) (sym z) ∙ behind i false (ap (λ x. x == 92) here) in
      let f = string_found (drop (i + 1) bytes) (i + 1) (j + 1) utf8 (scan (j - (i + 1)) (i + 1) Between (omega arith) (omega arith) free) in
      let end = f.5 in record {
        bytes = 34 ∷ (f.0 ++ 34 ∷ []);
        rest = f.1;
        characters = f.2;
        stands = drop-cons bytes i 32 (omega arith) ∙ ap (λ b. b ∷ drop (suc i) bytes) here ∙ ap (λ l. 34 ∷ l) (ap (λ n. drop n bytes) z ∙ f.4 ∙ sym (append_assoc f.0 (34 ∷ []) f.1));
        is_string = (f.0, f.3, refl);
        end = (let n = length-append f.0 (34 ∷ []) in omega arith);
      }

-- ---- tokens

-- no byte of a number or a word is a backslash
digit_no_slash : (b : ℕ) → IsDigit b → (b == 92) ≡ false
digit_no_slash b h = grind (arith, nat_tests)

digits_no_slash : (bs : List ℕ) → AreDigits bs → Each (λ b. (b == 92) ≡ false) bs
digits_no_slash [] h = tt
digits_no_slash (b ∷ bs) h = (digit_no_slash b h.0, digits_no_slash bs h.1)

minus_no_slash : (bs : List ℕ) → Optional (λ x. x ≡ 0x2D ∷ []) bs → Each (λ b. (b == 92) ≡ false) bs
minus_no_slash bs h = grind arith

int_no_slash : (bs : List ℕ) → IsInt bs → Each (λ b. (b == 92) ≡ false) bs
int_no_slash bs h = grind (arith, digit_no_slash, digits_no_slash)

frac_no_slash : (bs : List ℕ) → Optional IsFrac bs → Each (λ b. (b == 92) ≡ false) bs
frac_no_slash bs h = grind (arith, digits_no_slash)

exp_no_slash : (bs : List ℕ) → Optional IsExp bs → Each (λ b. (b == 92) ≡ false) bs
exp_no_slash bs h = grind (arith, each_append, digits_no_slash)

number_no_slash : (bs : List ℕ) → IsNumber bs → Each (λ b. (b == 92) ≡ false) bs
number_no_slash bs x = let P : ℕ → Type 0 = λ b. (b == 92) ≡ false in
    subst (Each P) (sym x.whole) (each_append P x.minus (x.int ++ (x.frac ++ x.exp)) (minus_no_slash x.minus x.is_minus)
    (each_append P x.int (x.frac ++ x.exp) (int_no_slash x.int x.is_int) (each_append P x.frac x.exp (frac_no_slash x.frac x.is_frac) (exp_no_slash x.exp x.is_exp))))

pub word_no_slash : (bs : List ℕ) (kind : Kind) → IsWord bs kind → Each (λ b. (b == 92) ≡ false) bs
word_no_slash bs kind h = grind (arith, number_no_slash)

pub atoms_each : (bs : List ℕ) → AreAtoms bs → Each (λ b. is_plain_atom b ≡ true) bs
atoms_each [] h = tt
atoms_each (b ∷ bs) h = (atom_from b h.0, atoms_each bs h.1)

-- what follows a word is no atom byte
over_at : (bytes : List ℕ) (j : ℕ) (rest : List ℕ) → drop j bytes ≡ rest → NoAtomFirst rest → is_plain_atom (byte bytes j) ≡ false
over_at bytes j [] e h = ap is_plain_atom (past bytes j e) where
  past : (xs : List ℕ) (k : ℕ) → drop k xs ≡ [] → byte xs k ≡ 32
  past [] k f = refl
  past (x ∷ xs) zero f = absurd (cc)
  past (x ∷ xs) (suc k) f = past xs k f
over_at bytes j (b ∷ bs) e h = ap is_plain_atom (uncons bytes j b bs e).here ∙ atom_none b h

pub sign_op : (p b : ℕ) (tok : Token) → sign_at p b ≡ Some tok → op_byte b ≡ true
sign_op p b tok h = grind (arith, nat_tests)

pub length_within : (bytes : List ℕ) (i : ℕ) (vs rest : List ℕ) → drop i bytes ≡ vs ++ rest → 0 < length vs → i + length vs ≤ length bytes
length_within bytes i [] rest e l = absurd (omega arith)
length_within bytes i (v ∷ []) rest e l = let u = uncons bytes i v rest e in let w = u.within in omega arith
length_within bytes i (v ∷ w ∷ vs) rest e l = let u = uncons bytes i v (w ∷ (vs ++ rest)) e in
    let m = length_within bytes (suc i) (w ∷ vs) rest u.left (omega arith) in omega arith

pub token_place : (bytes : List ℕ) (i p : ℕ) (vs rest : List ℕ) (tok : Token) → IsSeam bytes i → drop i bytes ≡ vs ++ rest → IsToken p vs tok rest → IsOnePlace bytes i (i + length vs)
token_place bytes i p vs rest tok s e (sign {b = b} h) = let u = uncons bytes i b rest e in
    let q = seams.passes_sign bytes i s u.within (ap op_byte u.here ∙ sign_op p b tok h) in let n : i + 1 ≡ suc i = omega arith in grind arith
token_place bytes i p vs rest tok s e (text cs (inside, h, is)) =
    let u = uncons bytes i 34 ((inside ++ 34 ∷ []) ++ rest) (e ∙ ap (λ l. l ++ rest) is) in let o = seams.opens_at_seam bytes i s u.here in
    let size : length vs ≡ suc (length inside + 1) = ap length is ∙ ap suc (length-append inside (34 ∷ [])) in
    let end : suc (i + suc (length inside)) ≡ i + length vs = omega arith in
    let span = string_ends bytes i (i + suc (length inside)) vs rest cs e (inside, h, is) o end in
    let q = seams.passes_string bytes i (i + suc (length inside)) span in grind arith
token_place bytes i p vs rest tok s e (word {b = b} {vs = bs} {kind = kind} a n k) =
    let j = i + suc (length bs) in let l = length_within bytes i (b ∷ bs) rest e (omega arith) in
    let q = seams.passes_atoms bytes i j s (omega arith) (omega arith) (stands (λ c. is_plain_atom c ≡ true) bytes i (b ∷ bs) rest (atoms_each (b ∷ bs) a) e) in
    let last : suc (i + length bs) ≡ j = omega arith in
    let slash = stands (λ c. (c == 92) ≡ false) bytes i (b ∷ bs) rest (word_no_slash (b ∷ bs) kind k) e (i + length bs) (omega arith) (omega arith) in
    let free : is_escaped bytes j ≡ false = ap (is_escaped bytes) (sym last) ∙ escaped_suc bytes (i + length bs) ∙ ap (λ x. x && not (is_escaped bytes (i + length bs))) slash in
    record { none = q.none; one = q.one; seam = q.seam (over_at bytes j rest (drop_past bytes i (b ∷ bs) rest e) n) free }

-- ---- the laws of classes

pub same_classes : (b : ℕ) → SameClasses b
same_classes b = grind (arith, same_sign, blank_from, atom_to, atom_from)
