-- How much of a text was copied; only private clauses cite it.
use Rattle.std.specs.Prelude.{◌≡◌, ◌≤◌, ℕ, List, length, take}

-- the first n bytes of the text, in a list that has room for all of it
pub record IsCopiedTo (text : List ℕ) (n : ℕ) (copy : List ℕ) (room : ℕ) : Type 0 where
  pub front : copy ≡ take n text
  pub enough : length text ≤ room
