-- What a builder that goes from place to place asks of the text, and what it finds of a string.
use Rattle.std.specs.Prelude.{◌≡◌, ◌<◌, ℕ, suc, ◌+◌, Bool, List, drop, Option, Some, None, IsUtf8}
use Rattle.structural_index.specs.Places.{byte, HasControlInside, HasWrongEscape}
use Rattle.structural_index.specs.Seams.{IsSpan, IsSeam, next_place}
use Rattle.json_text.specs.Tokens.{quote_end}
use Rattle.json_walk.specs.Bridge.{SpellsString}

-- what has been shown of a text before its tokens are looked at
pub record IsIndexed (text : List ℕ) : Type 0 where
  pub utf8 : IsUtf8 text
  pub controls : HasControlInside text → ⊥
  pub escapes : HasWrongEscape text → ⊥

-- a token begins at byte i, and the next place is this one: a quote right before it closes the string that begins at byte i
pub record ClosesBefore (text : List ℕ) (i n : ℕ) : Type 0 where
  pub string : (m : ℕ) → n ≡ suc m → i < m → byte text i ≡ 0x22 → byte text m ≡ 0x22 → IsSpan text i m
  pub seam : IsSeam text i
  pub next : n ≡ next_place text (suc i)

-- the place at which a string was found to end
abbrev pub end_in : Option (ℕ × Bool) → Option ℕ
end_in (Some (end, plain)) = Some end
end_in None = None

-- the string of the grammar that begins at byte i ends before this place, or there is none
abbrev pub StringEnds : List ℕ → ℕ → Option ℕ → Type 0
StringEnds text i (Some end) = (j : ℕ) × (end ≡ suc j) × SpellsString text i j
StringEnds text i None = quote_end (i + 1) (drop (i + 1) text) ≡ None
