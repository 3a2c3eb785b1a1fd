-- Short texts as words of eight bytes: what the crate's own steps speak of.
use Rattle.std.specs.Prelude.{zero, suc, ℕ, ◌+◌, ◌-◌, ◌*◌, ◌/◌, List, get_or, bit_and}

-- the number that the first k of the bytes f 0, f 1, .. make
abbrev pub bytes_number : (ℕ → ℕ) → ℕ → ℕ
bytes_number f zero = 0
bytes_number f (suc k) = bytes_number f k * 256 + f k

-- the bytes of a text of at most eight, the first one the highest, with zeros behind them
unfoldable pub word : List ℕ → ℕ
word bs = bytes_number (λ i. get_or bs i 0) 8

-- 0x10 in each byte that has no bit 4
abbrev pub marks : ℕ → ℕ
marks w = 0x1010101010101010 - bit_and w 0x1010101010101010

-- the low four bits of each byte that has bit 4
abbrev pub digit_places : ℕ → ℕ
digit_places w = bit_and w (bit_and w 0x1010101010101010 / 16 * 15)
