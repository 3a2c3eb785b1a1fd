-- How far a text goes on as a JSON text may (RFC 8259, section 2).
use Rattle.std.specs.Prelude.{ℕ, ◌+◌, ◌<◌, ◌≤◌, List, ◌++◌, length, take}
use Rattle.json_text.specs.Tree.{Tree}
use Rattle.json_text.specs.Grammar.{IsText}

-- some JSON text begins with these bytes
abbrev pub Begins : List ℕ → Type 0
Begins bytes = (rest : List ℕ) × (t : Tree) × IsText (bytes ++ rest) t

-- some JSON text begins with the first n bytes, and none with one byte more
pub record IsLongest (text : List ℕ) (n : ℕ) : Type 0 where
  pub within : n ≤ length text
  pub begins : Begins (take n text)
  pub ends : n < length text → Begins (take (n + 1) text) → ⊥
