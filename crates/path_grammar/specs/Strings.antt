-- Strings in quotes and the scalar values that they spell (RFC 9535, section 2.3.1.1).
use Rattle.std.specs.Prelude.{ℕ, ◌+◌, ◌-◌, ◌*◌, List, [], ◌∷◌, ◌++◌, ◌||◌, ◌==◌, nat_lt, IsTrue, codes}
use Rattle.std.specs.Char.Utf16.{surrogate_pair_char}
use Rattle.path_grammar.specs.Characters.{Text, is_between, is_digit, is_plain}

-- a hexadecimal digit, in either case, and its value
pub data Hex : ℕ → ℕ → Type 0 where
  digit_hex : {c : ℕ} → IsTrue (is_digit c) → Hex c (c - 0x30)
  upper_hex : {c : ℕ} → IsTrue (is_between 0x41 0x46 c) → Hex c (c - 0x37)
  lower_hex : {c : ℕ} → IsTrue (is_between 0x61 0x66 c) → Hex c (c - 0x57)

-- four of them
pub data FourHex : Text → ℕ → Type 0 where
  four : {a b c d i j k l : ℕ} → Hex a i → Hex b j → Hex c k → Hex d l → FourHex (a ∷ b ∷ c ∷ d ∷ []) (0x1000 * i + 0x100 * j + 0x10 * k + l)

-- what stands after a backslash in a string in quotes of this kind, and its scalar value
pub data Escape (quote : ℕ) : Text → ℕ → Type 0 where
  quote_mark : Escape quote (quote ∷ []) quote
  backspace : Escape quote (codes "b") 0x08
  form_feed : Escape quote (codes "f") 0x0C
  line_feed : Escape quote (codes "n") 0x0A
  carriage_return : Escape quote (codes "r") 0x0D
  tab : Escape quote (codes "t") 0x09
  slash : Escape quote (codes "/") 0x2F
  backslash : Escape quote (0x5C ∷ []) 0x5C
  non_surrogate : {t : Text} {u : ℕ} → FourHex t u → IsTrue (nat_lt u 0xD800 || nat_lt 0xDFFF u) → Escape quote (codes "u" ++ t) u
  surrogate_pair : {t s : Text} {high low : ℕ} → FourHex t high → FourHex s low → IsTrue (is_between 0xD800 0xDBFF high) → IsTrue (is_between 0xDC00 0xDFFF low) → Escape quote (codes "u" ++ (t ++ (0x5C ∷ codes "u" ++ s))) (surrogate_pair_char high low)

-- what stands between quotes of this kind; the other kind may stand there as it is
pub data Inside (quote other : ℕ) : Text → List ℕ → Type 0 where
  end : Inside quote other [] []
  plain : {c : ℕ} {t cs : Text} → IsTrue (is_plain c || c == other) → Inside quote other t cs → Inside quote other (c ∷ t) (c ∷ cs)
  escaped : {c : ℕ} {e t cs : Text} → Escape quote e c → Inside quote other t cs → Inside quote other (0x5C ∷ (e ++ t)) (c ∷ cs)

pub data StringLiteral : Text → List ℕ → Type 0 where
  double_quoted : {t cs : Text} → Inside 0x22 0x27 t cs → StringLiteral (0x22 ∷ (t ++ (0x22 ∷ []))) cs
  single_quoted : {t cs : Text} → Inside 0x27 0x22 t cs → StringLiteral (0x27 ∷ (t ++ (0x27 ∷ []))) cs
