-- Which bytes of a block of 64 are escaped, told from the word of its backslashes (Langdale and Lemire, "Parsing Gigabytes of JSON per Second", section 3.1.1).
use Rattle.std.specs.Prelude.{ℕ, zero, suc, Bool, not, ◌&&◌}
use Rattle.bit_words.specs.Words.{is_set}

-- A byte is escaped where the byte before it is a backslash that is not itself escaped. The carry says that byte 0 is escaped by the block before. Byte 64 is byte 0 of the next block.
unfoldable pub is_escaped : Bool → ℕ → ℕ → Bool
is_escaped carry backslash zero = carry
is_escaped carry backslash (suc i) = is_set backslash i && not (is_escaped carry backslash i)
