-- A walk over the places, token by token: what it knows before place number k, and what a token costs it.
use Rattle.std.specs.Prelude.{◌≡◌, ◌<◌, ◌≤◌, ℕ, suc, ◌+◌, ◌*◌, List, drop, get_or, length, IsFalse}
use Rattle.byte_masks.specs.Classes.{blank_byte}
use Rattle.structural_index.specs.Places.{byte, places, places_from}
use Rattle.structural_index.specs.Seams.{IsSeam, next_place, BlanksUpTo}
use Rattle.json_text.specs.Machine.{Token, Opening, Closing, Comma, Between, Text, Word}
use Rattle.json_walk.specs.Counting.{source_bytes_before}

-- byte i is place number k, or the end of the text where there is no such place
pub record StandsAt (text : List ℕ) (k i : ℕ) : Type 0 where
  pub within : i ≤ length text
  pub seam : IsSeam text i
  pub left : places_from text i ≡ drop k (places text)
  pub settled : next_place text i ≡ i

-- the source bytes of a token
abbrev pub weight : Token → ℕ
weight (Opening shape p) = 0
weight (Closing shape p) = 0
weight Comma = 0
weight Between = 0
weight (Text x) = x.len
weight (Word x kind) = x.len

-- looks so far: no more than three for each place passed and one for each source byte passed
abbrev pub IsPaid : List ℕ → (k i before now : ℕ) → Type 0
IsPaid text k i before now = now ≤ before + 3 * k + source_bytes_before text i

-- ---- laws

-- from a token that was taken at a place to the next place
pub record GoesOn (text : List ℕ) (k i j : ℕ) (tok : Token) : Type 0 where
  pub next : StandsAt text (suc k) (next_place text j)
  pub blanks : BlanksUpTo text j (next_place text j)
  pub paid : source_bytes_before text (next_place text j) ≡ source_bytes_before text i + weight tok

-- where the walk stands, from the list of places
pub record IsPlaceNumber (text : List ℕ) (k i : ℕ) : Type 0 where
  pub value : i ≡ get_or (places text) k (length text)
  pub solid : i < length text → IsFalse (blank_byte (byte text i))
  pub more : i < length text → k < length (places text)
  pub over : k < length (places text) → i < length text
