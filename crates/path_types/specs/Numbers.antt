-- Which texts a number literal of a valid query may be: a number of RFC 8259, section 6, within the limits on numbers. The grammar of
-- queries has the same numbers.
use Rattle.std.specs.Prelude.{ℕ, ◌↔◌, List, length, Bool, ◌&&◌, nat_le, is_some, IsTrue}
use Rattle.path_grammar.specs.Numbers.{Number}
use Rattle.decimal_order.specs.Number.{IsNumber}
use Rattle.decimal_order.specs.Value.{exponent_size}
use Rattle.decimal_order.specs.Limits.{IsWithinLimits}
use Rattle.decimal_order.specs.Reading.{read}

unfoldable pub is_number : List ℕ → Bool
is_number text = is_some (read text) && nat_le (length text) 256 && nat_le (exponent_size text) 999999999

-- the test says what it is to say
abbrev pub JudgesNumbers : Type 0
JudgesNumbers = (text : List ℕ) → IsTrue (is_number text) ↔ (IsNumber text × IsWithinLimits text)

-- the numbers of a query's literals (RFC 9535, section 2.3.5.1) are those of a JSON text (RFC 8259, section 6)
abbrev pub HaveOneGrammar : Type 0
HaveOneGrammar = (text : List ℕ) → Number text ↔ IsNumber text
