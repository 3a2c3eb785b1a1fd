-- How the places of a text meet the grammar: laws over the whole list of bytes, for a reader that goes from place to place.
use Rattle.std.specs.Prelude.{◌≡◌, ◌<◌, ◌↔◌, ℕ, suc, ◌+◌, List, ◌∷◌, ◌++◌, length, drop, IsTrue, IsFalse}
use Rattle.byte_masks.specs.Classes.{op_byte, blank_byte}
use Rattle.structural_index.specs.Places.{is_opening, is_place, places_from}
use Rattle.structural_index.specs.Seams.{IsSpan, IsSeam, is_plain_atom}
use Rattle.json_text.specs.Tree.{Spelt}
use Rattle.json_text.specs.Letters.{IsBlank, IsString}
use Rattle.json_text.specs.Tokens.{Atom, class, is_blank, is_sign, is_atom}

-- ---- classes of bytes

-- the index and the reader have the same blanks, structural characters and atom bytes
pub record SameClasses (b : ℕ) : Type 0 where
  pub blank : blank_byte b ≡ is_blank b
  pub sign : op_byte b ≡ is_sign b
  pub atom : is_plain_atom b ≡ is_atom b
  pub blanks : IsTrue (blank_byte b) ↔ IsBlank b
  pub atoms : IsTrue (is_plain_atom b) ↔ (class b ≡ Atom)

-- ---- strings

-- a string of the grammar that begins at an opening quote ends at the next real quote
abbrev pub StringsEndAtQuotes : Type 0
StringsEndAtQuotes = (text : List ℕ) (i j : ℕ) (vs rest : List ℕ) (cs : List Spelt)
    → drop i text ≡ vs ++ rest → IsString vs cs → IsTrue (is_opening text i) → suc j ≡ i + length vs → IsSpan text i j

-- the bytes from byte i to byte j are a string of the grammar
pub record SpellsString (text : List ℕ) (i j : ℕ) : Type 0 where
  pub bytes : List ℕ
  pub rest : List ℕ
  pub characters : List Spelt
  pub stands : drop i text ≡ bytes ++ rest
  pub is_string : IsString bytes characters
  pub end : suc j ≡ i + length bytes

-- ---- tokens

-- from byte i to before byte j stands one place, at byte i, and a token may begin at byte j
pub record IsOnePlace (text : List ℕ) (i j : ℕ) : Type 0 where
  pub none : (k : ℕ) → i < k → k < j → IsFalse (is_place text k)
  pub one : places_from text i ≡ i ∷ places_from text j
  pub seam : IsSeam text j
