-- Bytes without whitespace from one byte of a text on, and which of them are digits.
use Rattle.std.specs.Prelude.{◌≡◌, ◌≢◌, ◌<◌, ◌≤◌, ◌+◌, ℕ, List, length, get_or, IsTrue, IsFalse}
use Rattle.std.specs.Int.{bit_at}
use Rattle.byte_masks.specs.Classes.{blank_byte}
use Rattle.structural_index.specs.Places.{byte}
use Rattle.structural_index.specs.Laws.{AreBlanks}

-- no byte from byte i to before byte j is a blank
abbrev pub AreSolid : List ℕ → (i j : ℕ) → Type 0
AreSolid text i j = (k : ℕ) → i ≤ k → k < j → IsFalse (blank_byte (byte text k))

-- no byte from byte i to before byte j is a backslash
abbrev pub AreSlashless : List ℕ → (i j : ℕ) → Type 0
AreSlashless text i j = (k : ℕ) → i ≤ k → k < j → get_or text k 0 ≢ 0x5c

-- byte j is the first blank from byte i to before byte n, or n where there is none
pub record EndsAtBlank (text : List ℕ) (i n j : ℕ) : Type 0 where
  pub from : i ≤ j
  pub to : j ≤ n
  pub solid : AreSolid text i j
  pub over : j < n → IsTrue (blank_byte (byte text j))

-- from byte i to before byte n nothing but blanks stands behind a blank
abbrev pub AreBlanksLast : List ℕ → (i n : ℕ) → Type 0
AreBlanksLast text i n = (k : ℕ) → i ≤ k → k < n → IsTrue (blank_byte (byte text k)) → AreBlanks text k n

-- of 32 bytes from byte i on, each whose bit is not set is a digit
abbrev pub AreDigitsFrom : List ℕ → (i others : ℕ) → Type 0
AreDigitsFrom text i others = (k : ℕ) → k < 32 → bit_at others k ≡ 0 → (0x30 ≤ get_or text (i + k) 0) × (get_or text (i + k) 0 ≤ 0x39)

-- each byte whose bit is not set is a digit, and from bit 31 on all are set
pub record AreDigitsBut (bytes : List ℕ) (others : ℕ) : Type 0 where
  pub each : (k : ℕ) → k < 32 → bit_at others k ≡ 0 → (k < length bytes) × (0x30 ≤ get_or bytes k 0) × (get_or bytes k 0 ≤ 0x39)
  pub ends : (k : ℕ) → 31 ≤ k → k < 64 → bit_at others k ≡ 1
