-- The byte by byte end of a string is the grammar's.
use Rattle.json_text.proofs.Names.{◌≡◌, ◌≢◌, ℕ, suc, ◌+◌, ◌-◌, ◌*◌, ◌<◌, ◌≤◌, inl, inr, Bool, true, false, List, [], ◌∷◌, ◌++◌, length, get_or, Some}
use Rattle.json_text.proofs.Names.{None, refl, sym, ap, ◌∙◌, subst, arith, append_assoc, length-append, eqb, leb, ltb, IsUtf8, nat_tests}
use Rattle.json_text.proofs.Names.{length-encode, len_utf8_bounds, encodes, Spelt, Plain, Short, Unit4, IsHexDigit, IsShort, IsChar, AreChars, turn}
use Rattle.json_text.proofs.Names.{string_end, append-nil, cases_Bool}
use Rattle.std.specs.Char.{IsScalar}
use Rattle.std.proofs.lemmas.Str.{encode_ascii, inside_one}
use lib.Utf8.{scalars, scalar, encode}
use Rattle.json_text.specs.declared.modes.Mode.{Mode}
use Rattle.json_text.specs.declared.modes.Mode.TheVariants.{Between, Escape, Hex}
use Rattle.json_text.specs.declared.modes.Turn.TheVariants.{Fail, Go}
use Rattle.json_text.specs.Scanning.{is_short, is_hex}
use Rattle.std.proofs.lemmas.Bool.{and_parts}

-- bytes over which a scan between characters goes
abbrev pub ArePlain : List ℕ → Type 0
ArePlain [] = Unit {0}
ArePlain (b ∷ bs) = (turn Between b ≡ Go Between) × ArePlain bs

plain_pass : (bs rest : List ℕ) (k : ℕ) → ArePlain bs → string_end Between k (bs ++ rest) ≡ string_end Between (k + length bs) rest
plain_pass [] rest k h = let e : k ≡ k + 0 = omega arith in ap (λ n. string_end Between n rest) e
plain_pass (b ∷ bs) rest k h = grind (arith, plain_pass bs rest (k + 1) h.1)

plain_high : (b : ℕ) → 128 ≤ b → turn Between b ≡ Go Between
plain_high b h = grind (arith, nat_tests)

all_plain : (bs : List ℕ) → ((k : ℕ) → k < length bs → 128 ≤ get_or bs k 0) → ArePlain bs
all_plain [] h = tt
all_plain (b ∷ bs) h = (plain_high b (h 0 (omega arith)), all_plain bs (λ k l. h (suc k) (omega arith)))

high_byte : (c : ℕ) → 128 ≤ c → (k : ℕ) → k < length (encode c) → 128 ≤ get_or (encode c) k 0
high_byte c h k l = by_cases (leb 128 (get_or (encode c) k 0)) refl where
  by_cases : (t : Bool) → leb 128 (get_or (encode c) k 0) ≡ t → 128 ≤ get_or (encode c) k 0
  by_cases true e = grind (arith, nat_tests)
  by_cases false e = let low : get_or (encode c) k 0 < 128 = grind (arith, nat_tests) in
      let same = inside_one c [] (encode c) k (sym (append-nil (encode c))) l low in absurd (omega arith)

high_bytes : (c : ℕ) → 128 ≤ c → ArePlain (encode c)
high_bytes c h = all_plain (encode c) (high_byte c h)

pub plain_bytes : (c : ℕ) → 32 ≤ c → c ≢ 34 → c ≢ 92 → ArePlain (encode c)
plain_bytes c h n m = grind (arith, high_bytes, encode_ascii)

hex_test : (b n : ℕ) → IsHexDigit b n → is_hex b ≡ true
hex_test b n h = grind (arith, nat_tests)

short_test : (l : ℕ) → IsShort l → is_short l ≡ true
short_test l h = grind (arith, nat_tests)

-- over one character
char_pass : (c : Spelt) (one rest : List ℕ) (k : ℕ) → IsChar one c → string_end Between k (one ++ rest) ≡ string_end Between (k + length one) rest
char_pass (Plain c) one rest k (s, h, n, m, e) = plain_pass one rest k (subst ArePlain (sym e) (plain_bytes c h n m))
char_pass (Short l) one rest k (h, e) = grind arith
char_pass (Unit4 u) one rest k (a, b, c, d, x, y, z, w, ha, hb, hc, hd, eu, e) = let ta = hex_test a x ha in let tb = hex_test b y hb in
    let tc = hex_test c z hc in let td = hex_test d w hd in let f : k + 1 + 1 + 1 + 1 + 1 + 1 ≡ k + 6 = omega arith in grind arith

-- over any characters: where the grammar has a string, the scan ends at its quote
pub chars_pass : (cs : List Spelt) (inside rest : List ℕ) (k : ℕ) → AreChars inside cs → string_end Between k (inside ++ 34 ∷ rest) ≡ Some (k + length inside + 1)
chars_pass [] inside rest k h = let e : k + 1 ≡ k + 0 + 1 = omega arith in rw h (ap Some e)
chars_pass (c ∷ cs) inside rest k (one, others, h, hs, e) =
    grind (arith, chars_pass cs others rest (k + length one) hs, length-append, append_assoc, char_pass)

-- What the bytes of the character so far are, by the mode.
data Pending : Mode → List ℕ → Type 0 where
  none : Pending Between []
  slash : Pending Escape (92 ∷ [])
  hex_none : Pending (Hex 3) (92 ∷ 117 ∷ [])
  hex_one : {a x : ℕ} → IsHexDigit a x → Pending (Hex 2) (92 ∷ 117 ∷ a ∷ [])
  hex_two : {a b x y : ℕ} → IsHexDigit a x → IsHexDigit b y → Pending (Hex 1) (92 ∷ 117 ∷ a ∷ b ∷ [])
  hex_three : {a b c x y z : ℕ} → IsHexDigit a x → IsHexDigit b y → IsHexDigit c z → Pending (Hex 0) (92 ∷ 117 ∷ a ∷ b ∷ c ∷ [])

-- what is found from k on, behind the bytes of a character so far
record Found (k j : ℕ) (before bs : List ℕ) : Type 0 where
  inside : List ℕ
  rest : List ℕ
  characters : List Spelt
  are : AreChars (before ++ inside) characters
  is : bs ≡ inside ++ 34 ∷ rest
  end : j ≡ k + length inside + 1

hex_value : (b : ℕ) → is_hex b ≡ true → (n : ℕ) × IsHexDigit b n
hex_value b h = by_digit (leb b 57) refl where
  by_upper : (t : Bool) → leb b 70 ≡ t → leb b 57 ≡ false → (n : ℕ) × IsHexDigit b n
  by_upper true e f = let l : 65 ≤ b = grind (arith, nat_tests) in let m : b ≤ 70 = grind (arith, nat_tests) in
      (b - 55, inr (omega arith, omega arith, inr (omega arith)))
  by_upper false e f = let l : 97 ≤ b = grind (arith, nat_tests) in let m : b ≤ 102 = grind (arith, nat_tests) in
      (b - 87, inr (omega arith, omega arith, inl (omega arith)))

  by_digit : (t : Bool) → leb b 57 ≡ t → (n : ℕ) × IsHexDigit b n
  by_digit true e = let l : 48 ≤ b = grind (arith, nat_tests) in let m : b ≤ 57 = grind (arith, nat_tests) in (b - 48, inl (omega arith, omega arith))
  by_digit false e = by_upper (leb b 70) refl e

short_letter : (l : ℕ) → is_short l ≡ true → IsShort l
short_letter l h = grind (arith, nat_tests)

-- the byte ends a character
ends_char : (k j u : ℕ) (before bs : List ℕ) (c : Spelt) → IsChar (before ++ u ∷ []) c → Found (k + 1) j [] bs → Found k j before (u ∷ bs)
ends_char k j u before bs c h f = record {
  inside = u ∷ f.inside;
  rest = f.rest;
  characters = c ∷ f.characters;
  are = (before ++ u ∷ [], f.inside, h, f.are, sym (append_assoc before (u ∷ []) f.inside));
  is = ap (λ l. u ∷ l) f.is;
  end = (let e = f.end in omega arith);
}

-- the character goes on
goes_on : (k j u : ℕ) (before bs : List ℕ) → Found (k + 1) j (before ++ u ∷ []) bs → Found k j before (u ∷ bs)
goes_on k j u before bs f = grind (arith, append_assoc)

-- a digit of an escape that is not its last one
hex_step : (n k j u : ℕ) (before bs : List ℕ) → string_end (Hex (suc n)) k (u ∷ bs) ≡ Some j
    → ((x : ℕ) → IsHexDigit u x → Pending (Hex n) (before ++ u ∷ [])) → ((m : Mode) (before : List ℕ) → Pending m before → string_end m (k + 1) bs ≡ Some j → Found (k + 1) j before bs) → Found k j before (u ∷ bs)
hex_step n k j u before bs h next ih = elim (cases_Bool (is_hex u)) [
  | inl e ↦ goes_on k j u before bs (ih (Hex n) (before ++ u ∷ []) (next (hex_value u e).0 (hex_value u e).1) (rw e at h))
  | inr e ↦ absurd (let x = rw e at h in cc)
]

low_step : (m : Mode) (before : List ℕ) (k j u : ℕ) (bs : List ℕ) → Pending m before → u < 128 → IsScalar u → string_end m k (u ∷ bs) ≡ Some j
    → ((m : Mode) (before : List ℕ) → Pending m before → string_end m (k + 1) bs ≡ Some j → Found (k + 1) j before bs) → Found k j before (u ∷ bs)
low_step m before k j u bs none l s h ih = by_quote (eqb u 34) refl where
  by_rest : (t : Bool) → ltb u 32 ≡ t → eqb u 34 ≡ false → eqb u 92 ≡ false → Found k j [] (u ∷ bs)
  by_rest true e f g = absurd (let x = rw (f, g, e) at h in cc)
  by_rest false e f g =
      let a : 32 ≤ u = grind (arith, nat_tests) in let b : u ≢ 34 = grind (arith, nat_tests) in let c : u ≢ 92 = grind (arith, nat_tests) in
      ends_char k j u [] bs (Plain u) (s, a, b, c, sym (encode_ascii u l)) (ih Between [] none (rw (f, g, e) at h))

  by_slash : (t : Bool) → eqb u 92 ≡ t → eqb u 34 ≡ false → Found k j [] (u ∷ bs)
  by_slash true e f = let x : u ≡ 92 = grind (arith, nat_tests) in
      goes_on k j u [] bs (ih Escape (u ∷ []) (subst (λ c. Pending Escape (c ∷ [])) (sym x) slash) (rw (f, e) at h))
  by_slash false e f = by_rest (ltb u 32) refl f e

  by_quote : (t : Bool) → eqb u 34 ≡ t → Found k j [] (u ∷ bs)
  by_quote true e = let x : u ≡ 34 = grind (arith, nat_tests) in let y : k + 1 ≡ j = (let z = rw e at h in cc) in
      record { inside = []; rest = bs; characters = []; are = refl; is = ap (λ c. c ∷ bs) x; end = omega arith }
  by_quote false e = by_slash (eqb u 92) refl e
low_step m before k j u bs slash l s h ih = by_short (is_short u) refl where
  by_u : (t : Bool) → eqb u 117 ≡ t → is_short u ≡ false → Found k j (92 ∷ []) (u ∷ bs)
  by_u true e f = let x : u ≡ 117 = grind (arith, nat_tests) in
      goes_on k j u (92 ∷ []) bs (ih (Hex 3) (92 ∷ u ∷ []) (subst (λ c. Pending (Hex 3) (92 ∷ c ∷ [])) (sym x) hex_none) (rw (f, e) at h))
  by_u false e f = absurd (let x = rw (f, e) at h in cc)

  by_short : (t : Bool) → is_short u ≡ t → Found k j (92 ∷ []) (u ∷ bs)
  by_short true e = ends_char k j u (92 ∷ []) bs (Short u) (short_letter u e, refl) (ih Between [] none (rw e at h))
  by_short false e = by_u (eqb u 117) refl e
low_step m before k j u bs hex_none l s h ih = hex_step 2 k j u (92 ∷ 117 ∷ []) bs h (λ x d. hex_one d) ih
low_step m before k j u bs (hex_one {a = a} p) l s h ih = hex_step 1 k j u (92 ∷ 117 ∷ a ∷ []) bs h (λ x d. hex_two p d) ih
low_step m before k j u bs (hex_two {a = a} {b = b} p q) l s h ih = hex_step 0 k j u (92 ∷ 117 ∷ a ∷ b ∷ []) bs h (λ x d. hex_three p q d) ih
low_step m before k j u bs (hex_three {a = a} {b = b} {c = c} {x = x} {y = y} {z = z} p q r) l s h ih = by_hex (is_hex u) refl where
  by_hex : (t : Bool) → is_hex u ≡ t → Found k j (92 ∷ 117 ∷ a ∷ b ∷ c ∷ []) (u ∷ bs)
  by_hex true e = let v = hex_value u e in
      ends_char k j u (92 ∷ 117 ∷ a ∷ b ∷ c ∷ []) bs (Unit4 (4096 * x + 256 * y + 16 * z + v.0)) (a, b, c, u, x, y, z, v.0, p, q, r, v.1, refl, refl) (ih Between [] none (rw e at h))
  by_hex false e = absurd (cc)

high_first : (u : ℕ) → 128 ≤ u → (b : ℕ) × (t : List ℕ) × (encode u ≡ b ∷ t) × (128 ≤ b)
high_first u h = go (encode u) refl where
  go : (l : List ℕ) → encode u ≡ l → (b : ℕ) × (t : List ℕ) × (encode u ≡ b ∷ t) × (128 ≤ b)
  go [] e = absurd (let a = length-encode u in let b = len_utf8_bounds u in let c = ap length e in omega (arith, b.0))
  go (b ∷ t) e = let long : 0 < length (encode u) = (let c = ap length e in omega arith) in let first = high_byte u h 0 long in
      (b, t, e, subst (λ l. 128 ≤ get_or l 0 0) e first)

escape_fails : (b : ℕ) → 128 ≤ b → turn Escape b ≡ Fail
escape_fails b h = grind (arith, nat_tests)

hex_fails : (n b : ℕ) → 128 ≤ b → turn (Hex n) b ≡ Fail
hex_fails _ b h = grind (arith, nat_tests)

-- a mode in which a byte from 128 on fails
no_high : (m : Mode) (k j u : ℕ) (bs : List ℕ) → 128 ≤ u → ((b : ℕ) → 128 ≤ b → turn m b ≡ Fail) → string_end m k (encode u ++ bs) ≡ Some j → ⊥
no_high m k j u bs l f h = let x = high_first u l in let g = rw x.2 at h in let y = f x.0 x.3 in let z = rw y at g in cc

high_step : (m : Mode) (before : List ℕ) (k j u : ℕ) (bs : List ℕ) → Pending m before → 128 ≤ u → IsScalar u → string_end m k (encode u ++ bs) ≡ Some j
    → ((k : ℕ) (m : Mode) (before : List ℕ) → Pending m before → string_end m k bs ≡ Some j → Found k j before bs) → Found k j before (encode u ++ bs)
high_step m before k j u bs none l s h ih =
    let f = ih (k + length (encode u)) Between [] none (sym (plain_pass (encode u) bs k (high_bytes u l)) ∙ h) in record {
      inside = encode u ++ f.inside;
      rest = f.rest;
      characters = Plain u ∷ f.characters;
      are = (encode u, f.inside, (s, omega arith, (λ e. omega arith), (λ e. omega arith), refl), f.are, refl);
      is = ap (λ r. encode u ++ r) f.is ∙ sym (append_assoc (encode u) f.inside (34 ∷ f.rest));
      end = (let e = f.end in let n = length-append (encode u) f.inside in omega arith);
    }
high_step m before k j u bs slash l s h ih = absurd (no_high Escape k j u bs l escape_fails h)
high_step m before k j u bs hex_none l s h ih = absurd (no_high (Hex 3) k j u bs l (hex_fails 3) h)
high_step m before k j u bs h l s h' ih = search (arith, no_high, hex_fails)

-- where the scan ends, over valid UTF-8, the grammar has a string
found : (us : List ℕ) (k j : ℕ) (m : Mode) (before : List ℕ) → scalars us ≡ true → Pending m before → string_end m k (encodes us) ≡ Some j → Found k j before (encodes us)
found [] k j m before s p h = absurd (cc)
found (u ∷ us) k j m before s p h = by_low (leb 128 u) refl (λ k m before p h. found us k j m before (and_parts (scalar u) (scalars us) s).1 p h)
  where
    by_low : (t : Bool) → leb 128 u ≡ t → ((k : ℕ) (m : Mode) (before : List ℕ) → Pending m before → string_end m k (encodes us) ≡ Some j → Found k j before (encodes us)) → Found k j before (encode u ++ encodes us)
    by_low t e ih = search (arith, high_step, and_parts, encode_ascii, low_step)

-- from behind a quote, over valid UTF-8
pub string_found : (bs : List ℕ) (k j : ℕ) → IsUtf8 bs → string_end Between k bs ≡ Some j → (inside rest : List ℕ) × (cs : List Spelt) × AreChars inside cs × (bs ≡ inside ++ 34 ∷ rest) × (j ≡ k + length inside + 1)
string_found bs k j (us, (s, e)) h = let f = found us k j Between [] s none (ap (string_end Between k) e ∙ h) in grind (arith, f)

-- where it does not end, the grammar has none
pub string_none : (bs : List ℕ) (k : ℕ) → string_end Between k bs ≡ None → (inside rest : List ℕ) (cs : List Spelt) → AreChars inside cs → bs ≡ inside ++ 34 ∷ rest → ⊥
string_none bs k h inside rest cs a e = let f = chars_pass cs inside rest k a in let g = ap (string_end Between k) e in cc

-- a string ends in one way, so same_token needs no more
pub string_one : (a b r r' : List ℕ) (cs ds : List Spelt) → AreChars a cs → AreChars b ds → a ++ 34 ∷ r ≡ b ++ 34 ∷ r' → length a ≡ length b
string_one a b r r' cs ds f g e = grind (arith, chars_pass cs a r 0 f, chars_pass ds b r' 0 g)
