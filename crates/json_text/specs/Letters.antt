-- The productions below a value but for numbers: blanks and strings (RFC 8259, sections 2 and 7).
use Rattle.std.specs.Prelude.{◌≡◌, ◌≢◌, ℕ, ◌+◌, ◌*◌, ◌<◌, ◌≤◌, ◌⊎◌, List, [], ◌∷◌, ◌++◌, encode_utf8}
use Rattle.std.specs.Char.{IsScalar}
use Rattle.json_text.specs.Tree.{Spelt, Plain, Short, Unit4}

-- blank, tab, line feed, carriage return (section 2, `ws`)
abbrev pub IsBlank : ℕ → Type 0
IsBlank b = (b ≡ 32) ⊎ (b ≡ 9) ⊎ (b ≡ 10) ⊎ (b ≡ 13)

-- any number of blanks, the S of the productions
abbrev pub AreBlanks : List ℕ → Type 0
AreBlanks [] = Unit {0}
AreBlanks (b ∷ bs) = IsBlank b × AreBlanks bs

-- a hexadecimal digit of either case, and its value
abbrev pub IsHexDigit : ℕ → ℕ → Type 0
IsHexDigit b n = ((n < 10) × (b ≡ 48 + n)) ⊎ ((10 ≤ n) × (n < 16) × ((b ≡ 87 + n) ⊎ (b ≡ 55 + n)))

-- what may stand behind a backslash: a quote, a backslash, a slash, b, f, n, r, t
abbrev pub IsShort : ℕ → Type 0
IsShort l = (l ≡ 34) ⊎ (l ≡ 92) ⊎ (l ≡ 47) ⊎ (l ≡ 98) ⊎ (l ≡ 102) ⊎ (l ≡ 110) ⊎ (l ≡ 114) ⊎ (l ≡ 116)

-- one character of a string (section 7, `char`)
abbrev pub IsChar : List ℕ → Spelt → Type 0
IsChar bytes (Plain c) = IsScalar c × (32 ≤ c) × (c ≢ 34) × (c ≢ 92) × (bytes ≡ encode_utf8 c)
IsChar bytes (Short letter) = IsShort letter × (bytes ≡ 92 ∷ letter ∷ [])
IsChar bytes (Unit4 unit) = (a b c d k l m n : ℕ) × IsHexDigit a k × IsHexDigit b l × IsHexDigit c m × IsHexDigit d n
    × (unit ≡ 4096 * k + 256 * l + 16 * m + n) × (bytes ≡ 92 ∷ 117 ∷ a ∷ b ∷ c ∷ d ∷ [])

-- any number of characters, one after another
abbrev pub AreChars : List ℕ → List Spelt → Type 0
AreChars bytes [] = bytes ≡ []
AreChars bytes (c ∷ cs) = (one others : List ℕ) × IsChar one c × AreChars others cs × (bytes ≡ one ++ others)

-- characters between two quotes (section 7, `string`)
abbrev pub IsString : List ℕ → List Spelt → Type 0
IsString bytes cs = (inside : List ℕ) × AreChars inside cs × (bytes ≡ 34 ∷ (inside ++ 34 ∷ []))
