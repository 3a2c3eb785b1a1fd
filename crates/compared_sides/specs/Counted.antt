-- The lengths that an evaluation keeps.
use Rattle.std.specs.Prelude.{◌≡◌, ℕ, suc, List, [], ◌∷◌, Option, Some, None}
use Rattle.json_tape.specs.Document.{Doc, node_at, length_of}

-- what is kept for the value of this number is its length
abbrev pub IsCounted : Doc → ℕ → Option ℕ → Type 0
IsCounted d n None = Unit {0}
IsCounted d n (Some length) = length_of (node_at d n).tree ≡ Some length

-- the lengths that are kept are right, for all entries from this number on
abbrev pub AreCountedFrom : Doc → ℕ → List (Option ℕ) → Type 0
AreCountedFrom d n [] = Unit {0}
AreCountedFrom d n (x ∷ xs) = IsCounted d n x × AreCountedFrom d (suc n) xs

abbrev pub AreCounted : Doc → List (Option ℕ) → Type 0
AreCounted d xs = AreCountedFrom d 0 xs
