-- How the characters of a text are read a run of blocks at a time; only private clauses cite it.
use Rattle.std.specs.Prelude.{◌≡◌, ◌<◌, ◌≤◌, ◌-◌, ◌%◌, ◌⊎◌, ℕ, List, length, take, drop, IsTrue, IsFalse, IsUtf8}
use Rattle.structural_index.specs.declared.characters.Characters.{Characters}

-- a run of blocks, or one that ends with the text
abbrev pub EndsRun : List ℕ → ℕ → Type 0
EndsRun text end = (end % 64 ≡ 0) ⊎ (end ≡ length text)

-- a run of at least a block from this byte on, where a character begins behind it if one begins before it
pub record IsRun (text : List ℕ) (from : ℕ) (run : Characters) : Type 0 where
  pub past : (from < run.end) ⊎ (run.end ≡ length text)
  pub inside : run.end ≤ length text
  pub over : EndsRun text run.end
  pub sound : IsTrue run.valid → IsUtf8 (take (run.end - from) (drop from text))
  pub complete : IsUtf8 (take from text) → IsUtf8 text → IsTrue run.valid

-- what is known of the characters before byte n, and of those up to the end of a run that goes past it
pub record AreRead (text : List ℕ) (n : ℕ) (found : Characters) : Type 0 where
  pub here : found.end ≤ n → IsTrue found.valid → IsUtf8 (take n text)
  pub ahead : n ≤ found.end → IsTrue found.valid → IsUtf8 (take found.end text)
  pub wrong : IsFalse found.valid → IsUtf8 text → ⊥
  pub inside : found.end ≤ length text
  pub over : EndsRun text found.end
