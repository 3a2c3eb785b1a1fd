-- Where strings begin and end in a block of 64 bytes, told from the word of its real quotes (Langdale and Lemire, "Parsing Gigabytes of JSON per Second", section 3.1.1).
use Rattle.std.specs.Prelude.{ℕ, zero, suc, ◌+◌, Bool, not, ◌&&◌, cond}
use Rattle.bit_words.specs.Words.{is_set, is_odd}

-- how many of the bits below bit i are 1
unfoldable pub ones_below : ℕ → ℕ → ℕ
ones_below word zero = 0
ones_below word (suc i) = cond (is_set word i) (suc (ones_below word i)) (ones_below word i)

-- whether bits 0 to i have an odd number of ones
abbrev pub parity_through : ℕ → ℕ → Bool
parity_through word i = is_odd (ones_below word (suc i))

-- how many real quotes stand before byte i, where a block that begins within a string counts one more
abbrev pub quotes_before : Bool → ℕ → ℕ → ℕ
quotes_before inside quotes i = cond inside 1 0 + ones_below quotes i

abbrev pub is_opening : Bool → ℕ → ℕ → Bool
is_opening inside quotes i = is_set quotes i && not (is_odd (quotes_before inside quotes i))

abbrev pub is_closing : Bool → ℕ → ℕ → Bool
is_closing inside quotes i = is_set quotes i && is_odd (quotes_before inside quotes i)

abbrev pub is_interior : Bool → ℕ → ℕ → Bool
is_interior inside quotes i = not (is_set quotes i) && is_odd (quotes_before inside quotes i)
