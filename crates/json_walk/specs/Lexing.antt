-- What the bytes at a place are: a word, a number, and whether it is within the limits.
use Rattle.std.specs.Prelude.{◌≡◌, ℕ, ◌+◌, ◌-◌, ◌<◌, ◌≤◌, get_or, Bool, true, false, take, drop, Result, Ok, Err, List, length, None}
use Rattle.decimal_order.specs.Number.{IsDigit, IsNumber}
use Rattle.decimal_order.specs.Limits.{IsWithinLimits}
use Rattle.decimal_order.specs.Value.{is_e}
use Rattle.json_text.specs.declared.tape.Kind.TheVariants as kinds
use Rattle.json_text.specs.declared.tape.BuildFault.{BuildFault}
use Rattle.json_walk.specs.declared.lexing.WordKind.{WordKind}
use Rattle.json_walk.specs.declared.lexing.WordKind.TheVariants as word_kinds
use Rattle.json_text.specs.Tokens.{IsWord, WordIs, is_atom}

-- bytes are of this kind: a word, a number within the limits of numbers, any number, or neither
abbrev pub IsWordKind : List ℕ → WordKind → Type 0
IsWordKind bs word_kinds.Null = IsWord bs kinds.Null
IsWordKind bs word_kinds.False = IsWord bs (kinds.Bool false)
IsWordKind bs word_kinds.True = IsWord bs (kinds.Bool true)
IsWordKind bs word_kinds.Number = IsNumber bs × IsWithinLimits bs
IsWordKind bs word_kinds.LongNumber = IsNumber bs
IsWordKind bs word_kinds.Nothing = WordIs bs None

-- each byte from the first place to before the second is a digit
abbrev pub DigitsStand : List ℕ → ℕ → ℕ → Type 0
DigitsStand bytes from to = (k : ℕ) → from ≤ k → k < to → IsDigit (get_or bytes k 0)

-- a point stands at that place, and digits from there to the end
abbrev pub IsFraction : List ℕ → ℕ → Type 0
IsFraction bytes point = (get_or bytes point 0 ≡ 46) × (point + 1 < length bytes) × DigitsStand bytes (point + 1) (length bytes)

-- no byte begins an exponent
abbrev pub HasNoExponent : List ℕ → Type 0
HasNoExponent bytes = (k : ℕ) → k < length bytes → is_e (get_or bytes k 0) ≡ false

-- a mark that only words within the limits of numbers were read, at this place too
abbrev pub Marked : List ℕ → ℕ → Bool → Result ℕ BuildFault → Bool → Type 0
Marked bytes i old (Ok j) new = new ≡ false → (old ≡ false) × (is_atom (get_or bytes i 0) ≡ true → IsWithinLimits (take (j - i) (drop i bytes)))
Marked bytes i old (Err f) new = Unit {0}
