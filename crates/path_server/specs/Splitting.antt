-- A text split at the first byte of one value.
use Rattle.std.specs.Prelude.{◌≡◌, ◌≢◌, ℕ, List, [], ◌∷◌, ◌++◌}

-- no byte has this value
abbrev pub Lacks : ℕ → List ℕ → Type 0
Lacks mark [] = Unit {0}
Lacks mark (c ∷ text) = (c ≢ mark) × Lacks mark text

-- what stands before the first such byte, and behind it
pub record IsSplit (mark : ℕ) (text before behind : List ℕ) : Type 0 where
  pub split : text ≡ before ++ mark ∷ behind
  pub first : Lacks mark before
