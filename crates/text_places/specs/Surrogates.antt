-- The first surrogate that stands alone (RFC 8259, section 7).
use Rattle.std.specs.Prelude.{ℕ, ◌+◌, ◌<◌, List, IsTrue}
use Rattle.structural_index.specs.Places.{is_lone}

-- the escape of a lone surrogate begins here, its u one byte on, and no other stands before it
pub record IsFirstLone (text : List ℕ) (at : ℕ) : Type 0 where
  pub lone : IsTrue (is_lone text (at + 1))
  pub first : (u : ℕ) → u < at + 1 → IsTrue (is_lone text u) → ⊥
