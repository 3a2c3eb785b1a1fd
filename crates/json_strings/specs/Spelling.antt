-- The characters that the bytes of a string spell (RFC 8259, section 7), told from the bytes one after another.
use Rattle.std.specs.Prelude.{◌≡◌, ◌≢◌, ◌<◌, ◌≤◌, get_or, ℕ, None, Bool, nat_eq, zero, suc, ◌+◌, ◌-◌, ◌*◌, ◌%◌, cond, ◌||◌, eqb, ltb, leb, List, [], ◌∷◌, take, drop, length}
use Rattle.std.specs.List.{list_any}
use Rattle.std.specs.Str.{chars}
use Rattle.std.specs.Char.{digit_value}
use Rattle.json_strings.specs.Letters.{word_at}
use Rattle.json_text.specs.Tree.{Spelt, Plain, Short, Unit4}
use Rattle.json_text.specs.Meaning.{meaning_after}
use Rattle.json_text.specs.declared.tape.Extent.{Extent}
use Rattle.json_strings.specs.declared.plain.Words.{Words}
use Rattle.json_text.specs.declared.modes.Mode.{Mode}
use Rattle.json_text.specs.declared.modes.Mode.TheVariants.{Between, Escape, Hex}

-- the value of a hexadecimal digit of either case
abbrev pub hex_value : ℕ → ℕ
hex_value c = cond (ltb (digit_value c) 16) (digit_value c) 0

-- The characters that these scalar values spell: between two characters, behind a backslash, or where this many
-- hexadecimal digits and one more come, with the value u of those before them.
abbrev pub spelt_from : Mode → ℕ → List ℕ → List Spelt
spelt_from m u [] = []
spelt_from Between u (c ∷ cs) = cond (eqb c 92) (spelt_from Escape 0 cs) (Plain c ∷ spelt_from Between 0 cs)
spelt_from Escape u (c ∷ cs) = cond (eqb c 117) (spelt_from (Hex 3) 0 cs) (Short c ∷ spelt_from Between 0 cs)
spelt_from (Hex zero) u (c ∷ cs) = Unit4 (16 * (u % 4096) + hex_value c) ∷ spelt_from Between 0 cs
spelt_from (Hex (suc n)) u (c ∷ cs) = spelt_from (Hex n) (16 * (u % 4096) + hex_value c) cs

-- without the quotes around it
abbrev pub unquoted : List ℕ → List ℕ
unquoted bs = take (length bs - 2) (drop 1 bs)

-- the characters of a string, whose bytes include its quotes
unfoldable pub spelt : List ℕ → List Spelt
spelt bs = spelt_from Between 0 (chars (unquoted bs))

-- the scalar values that the characters between two quotes mean
abbrev pub scalars_in : List ℕ → List ℕ
scalars_in cs = meaning_after None (spelt_from Between 0 cs)

-- whether a character begins with this byte (RFC 3629, section 3)
abbrev pub begins : ℕ → Bool
begins b = ltb b 128 || leb 192 b

-- some byte is a backslash
abbrev pub has_backslash : List ℕ → Bool
has_backslash bs = list_any (λ b. nat_eq b 92) bs

-- two quotes or more stand there, one at the start and one at the end
abbrev pub IsQuoted : List ℕ → Extent → Type 0
IsQuoted text e = (2 ≤ e.len) × (e.start + e.len ≤ length text) × (get_or text e.start 0 ≡ 34) × (get_or text (e.start + e.len - 1) 0 ≡ 34)

-- from the first place to before the second each byte is an ASCII character, no backslash, and the scalar value that stands there
abbrev pub SpellPlainly : List ℕ → List ℕ → ℕ → ℕ → Type 0
SpellPlainly bytes scalars from to = (k : ℕ) → from ≤ k → k < to → (get_or bytes k 0 < 128) × (get_or bytes k 0 ≢ 92) × (get_or scalars k 0 ≡ get_or bytes k 0)

-- from a place on four ASCII characters and no backslashes
abbrev pub ArePlainAt : List ℕ → ℕ → Type 0
ArePlainAt xs at = (k : ℕ) → at ≤ k → k < at + 4 → (get_or xs k 0 < 128) × (get_or xs k 0 ≢ 92)

-- the four from a place on, as the bytes of one word
abbrev pub IsWord : ℕ → List ℕ → ℕ → Type 0
IsWord word xs at = word ≡ word_at xs at

-- the words of four characters from each of two places on, all of which stand for themselves
abbrev pub AreWords : Words → List ℕ → ℕ → ℕ → Type 0
AreWords words name first last = IsWord words.first name first × ArePlainAt name first × IsWord words.last name last × ArePlainAt name last

-- the words of a name of four to eight characters
abbrev pub AreWordsOf : Words → List ℕ → Type 0
AreWordsOf words name = (4 ≤ length name) × (length name ≤ 8) × AreWords words name 0 (length name - 4)
