-- Four letters as one number.
use Rattle.std.specs.Prelude.{◌+◌, ℕ, List, [], ◌∷◌, get_or}
use Rattle.std.specs.Int.{from_le_bytes, w32}

-- four bytes as one number, the first one the lowest
abbrev pub word_at : List ℕ → ℕ → ℕ
word_at text i = from_le_bytes w32 (get_or text i 0 ∷ get_or text (i + 1) 0 ∷ get_or text (i + 2) 0 ∷ get_or text (i + 3) 0 ∷ [])
