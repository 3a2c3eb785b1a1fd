-- What a writer took of bytes that were to be written (this project's own).
use Rattle.std.specs.Prelude.{◌≡◌, ◌≢◌, ℕ, List, [], ◌++◌, Option}
use Rattle.std.specs.Io.KnownBytes.{Appends}

-- a front of the bytes is written, and the rest is left
pub record WritesBut (rest bytes : List ℕ) (old new : Option (List ℕ)) : Type 0 where
  pub front : List ℕ
  pub split : bytes ≡ front ++ rest
  pub written : Appends old new front

-- some front of the bytes is written
abbrev pub WritesFront : (bytes : List ℕ) (old new : Option (List ℕ)) → Type 0
WritesFront bytes old new = (rest : List ℕ) × WritesBut rest bytes old new

-- a front of them is written, and there is more of them
abbrev pub StopsShort : (bytes : List ℕ) (old new : Option (List ℕ)) → Type 0
StopsShort bytes old new = (rest : List ℕ) × (rest ≢ []) × WritesBut rest bytes old new
