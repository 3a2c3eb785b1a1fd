-- The characters told from the bytes of a string are those of the grammar.
use Rattle.json_text.proofs.Names.{Option, Some, None, ◌≡◌, ◌≢◌, ℕ, ◌+◌, ◌-◌, ◌*◌, ◌%◌, ◌<◌, ◌≤◌, inl, inr, false, List, [], ◌∷◌, ◌++◌, length, drop}
use Rattle.json_text.proofs.Names.{get_or, refl, sym, ap, ◌∙◌, subst, arith, length-append, length-drop, eqb, IsUtf8, chars, nat_tests, take_at}
use Rattle.json_text.proofs.Names.{get_or_at, get_or-drop, get_or-take, length-take, append-nil, chars-nil, chars-append, length-encode}
use Rattle.json_text.proofs.Names.{len_utf8_bounds, Spelt, Plain, Short, Unit4, Source, IsHexDigit, IsShort, IsChar, AreChars, IsString}
use Rattle.json_text.proofs.Names.{meaning_after, bytes_at, extent}
use Rattle.std.specs.Str.{IsAscii}
use Rattle.std.proofs.lemmas.Str.{chars-IsAscii, chars_past_char, IsUtf8-encode, IsUtf8-from_ascii}
use lib.Utf8.{encode}
use Rattle.json_text.specs.Meaning.{meaning}
use Rattle.json_text.specs.declared.tape.Extent.{Extent}
use Rattle.json_strings.specs.Spelling.{hex_value, spelt_from, unquoted, spelt, scalars_in, IsQuoted}
use Rattle.json_text.specs.declared.modes.Mode.TheVariants.{Between}
use Rattle.json_text.proofs.Fits.{Lies}

pub ascii_nil : IsAscii []
ascii_nil _ = omega arith

pub ascii_more : (b : ℕ) (bs : List ℕ) → b < 128 → IsAscii bs → IsAscii (b ∷ bs)
ascii_more b bs h f h' = search arith

short_small : (l : ℕ) → IsShort l → (l < 128) × (l ≢ 117)
short_small l h = (grind arith, λ e. grind arith)

digit_small : (b n : ℕ) → IsHexDigit b n → b < 128
digit_small b n h = grind arith

digit_is : (b n : ℕ) → IsHexDigit b n → hex_value b ≡ n
digit_is b n (inl (h, e)) = search arith
digit_is b n (inr (h, g, inl e)) = search arith
digit_is b n (inr (h, g, inr e)) = search arith

pub keep : (n : ℕ) → n < 4096 → n % 4096 ≡ n
keep n h = omega arith

pub digit_bound : (b n : ℕ) → IsHexDigit b n → n < 16
digit_bound b n h = grind arith

unit_ascii : (a b c d k l m n : ℕ) → IsHexDigit a k → IsHexDigit b l → IsHexDigit c m → IsHexDigit d n → IsAscii (92 ∷ 117 ∷ a ∷ b ∷ c ∷ d ∷ [])
unit_ascii a b c d k l m n ha hb hc hd = ascii_more 92 (117 ∷ a ∷ b ∷ c ∷ d ∷ []) (omega arith) (ascii_more 117 (a ∷ b ∷ c ∷ d ∷ []) (omega arith)
    (ascii_more a (b ∷ c ∷ d ∷ []) (digit_small a k ha) (ascii_more b (c ∷ d ∷ []) (digit_small b l hb) (ascii_more c (d ∷ []) (digit_small c m hc) (ascii_more d [] (digit_small d n hd) ascii_nil)))))

digits_value : (k l m n u : ℕ) → k < 16 → l < 16 → m < 16 → u ≡ 4096 * k + 256 * l + 16 * m + n
    → 16 * ((16 * ((16 * ((16 * (0 % 4096) + k) % 4096) + l) % 4096) + m) % 4096) + n ≡ u
digits_value k l m n u hk hl hm e = grind arith

-- the characters of one character, and what follows them
char_spells : (bs : List ℕ) (c : Spelt) → IsChar bs c → IsUtf8 bs × ((rest : List ℕ) → spelt_from Between 0 (chars bs ++ rest) ≡ c ∷ spelt_from Between 0 rest)
char_spells bs (Plain c) (s, l, q, b, e) = let u : IsUtf8 bs = subst IsUtf8 (sym e) (IsUtf8-encode c s) in
    let f : chars bs ≡ c ∷ [] = chars_past_char bs [] c u (e ∙ sym (append-nil (encode c))) ∙ ap (λ l. c ∷ l) chars-nil in
    let t : eqb c 92 ≡ false = grind (arith, nat_tests) in (u, λ rest. rw (f, t) refl)
char_spells bs (Short letter) (h, e) = let s = short_small letter h in
    let a : IsAscii bs = subst IsAscii (sym e) (ascii_more 92 (letter ∷ []) (omega arith) (ascii_more letter [] s.0 ascii_nil)) in
    let f : chars bs ≡ 92 ∷ letter ∷ [] = chars-IsAscii bs a ∙ e in let n = s.1 in
    let t : eqb letter 117 ≡ false = grind (arith, nat_tests) in (IsUtf8-from_ascii bs a, λ rest. rw (f, t) refl)
char_spells bs (Unit4 u) (a, b, c, d, k, l, m, n, ha, hb, hc, hd, e, f) =
    let i : IsAscii bs = subst IsAscii (sym f) (unit_ascii a b c d k l m n ha hb hc hd) in
    let g : chars bs ≡ 92 ∷ 117 ∷ a ∷ b ∷ c ∷ d ∷ [] = chars-IsAscii bs i ∙ f in
    let v = digits_value k l m n u (digit_bound a k ha) (digit_bound b l hb) (digit_bound c m hc) e in
    (IsUtf8-from_ascii bs i, λ rest. rw (g, digit_is a k ha, digit_is b l hb, digit_is c m hc, digit_is d n hd, v) refl)

pub chars_spell : (bs : List ℕ) (cs : List Spelt) → AreChars bs cs → spelt_from Between 0 (chars bs) ≡ cs
chars_spell bs [] e = rw (e, chars-nil) refl
chars_spell bs (c ∷ cs) (one, others, h, g, e) = grind (arith, chars_spell others cs g, char_spells, chars-append)

-- what stands between the quotes
pub unquoted_is : (bs inside : List ℕ) → bs ≡ 34 ∷ (inside ++ 34 ∷ []) → unquoted bs ≡ inside
unquoted_is bs inside e = grind (arith, length-append, take_at)

pub spelt_is : (bs : List ℕ) (cs : List Spelt) → IsString bs cs → spelt bs ≡ cs
unfolding spelt
spelt_is bs cs (inside, h, e) = ap (λ l. spelt_from Between 0 (chars l)) (unquoted_is bs inside e) ∙ chars_spell inside cs h

pub scalars_are : (bs : List ℕ) (cs : List Spelt) → IsString bs cs → scalars_in (chars (unquoted bs)) ≡ meaning cs
unfolding meaning
scalars_are bs cs (inside, h, e) = ap (meaning_after _) (ap (λ l. spelt_from Between 0 (chars l)) (unquoted_is bs inside e) ∙ chars_spell inside cs h)

-- a string of the text stands in it with its quotes
pub quoted_is : (text : List ℕ) (s : Source) (cs : List Spelt) → Lies text s → IsString s.bytes cs → IsQuoted text (extent s)
quoted_is text s cs l (inside, h, e) =
    let n : length s.bytes ≡ length inside + 2 = ap length e ∙ omega (arith, length-append inside (34 ∷ [])) in let m = ap length l in
    let a = length-take (length s.bytes) (drop s.place text) in let b = length-drop s.place text in let p : 0 < length s.bytes = omega arith in
    let start : get_or text s.place 0 ≡ 34 =
    sym (ap (λ k. get_or text k 0) (omega arith)) ∙ sym (get_or-drop s.place text 0 0) ∙ sym (get_or-take (length s.bytes) (drop s.place text) 0 0 p) ∙ sym (ap (λ x. get_or x 0 0) l) ∙ ap (λ x. get_or x 0 0) e in
    let q : length inside + 1 < length s.bytes = omega arith in let end : get_or text (s.place + length s.bytes - 1) 0 ≡ 34 =
    sym (ap (λ k. get_or text k 0) (omega arith)) ∙ sym (get_or-drop s.place text (length inside + 1) 0) ∙ sym (get_or-take (length s.bytes) (drop s.place text) (length inside + 1) 0 q) ∙ sym (ap (λ x. get_or x (length inside + 1) 0) l)
    ∙ ap (λ x. get_or x (length inside + 1) 0) e ∙ get_or_at (34 ∷ inside) 34 [] 0 (length inside + 1) (omega arith) in
    (omega arith, omega arith, start, end)

-- the string that an entry shows
module _ (text source : List ℕ) (x : Extent) (s : Source) (cs : List Spelt) (same : source ≡ text) (shown : x ≡ extent s) (lies : Lies text s) (string : IsString s.bytes cs) where
  pub quoted_at : IsQuoted source x
  quoted_at = subst (λ l. IsQuoted l x) (sym same) (subst (IsQuoted text) (sym shown) (quoted_is text s cs lies string))

  pub scalars_at : scalars_in (chars (unquoted (bytes_at source x))) ≡ meaning cs
  scalars_at = grind (arith, scalars_are)

-- each character has a byte at least, and gives a scalar value at most
chars_short : (bs : List ℕ) (cs : List Spelt) → AreChars bs cs → length cs ≤ length bs
chars_short bs [] e = omega arith
chars_short bs (c ∷ cs) (one, others, h, g, e) = grind (arith, chars_short others cs g, length-append, length-encode, len_utf8_bounds)

pub meaning_short : (high : Option ℕ) (cs : List Spelt) → length (meaning_after high cs) ≤ length cs
meaning_short high [] = omega arith
meaning_short high (Plain c ∷ cs) = let m = meaning_short None cs in omega arith
meaning_short high (Short l ∷ cs) = let m = meaning_short None cs in omega arith
meaning_short high (Unit4 u ∷ cs) = grind (arith, meaning_short (Some u) cs, meaning_short None cs)

-- two quotes stand around what a string means
pub string_room : (bs : List ℕ) (cs : List Spelt) → IsString bs cs → length (meaning cs) + 2 ≤ length bs
unfolding meaning
string_room bs cs h = grind (arith, length-append, chars_short, meaning_short)

pub string_short : (text : List ℕ) (s : Source) (cs : List Spelt) → Lies text s → IsString s.bytes cs → length (meaning cs) ≤ length text
string_short text s cs l h = grind (arith, length-take, length-drop, string_room)

pub nothing_left : (bs : List ℕ) → length bs ≡ 0 → chars bs ≡ []
nothing_left [] h = chars-nil
nothing_left (b ∷ bs) h = absurd (omega arith)
