-- In how many others a value lies.
use Rattle.std.specs.Prelude.{ℕ, suc, ◌<◌}
use Rattle.json_text.specs.Tree.{Tree}
use Rattle.json_text.specs.Tape.{Label, Top, IsAt}

-- the value with this number lies in so many others: the first in none, and another in one more than the value around it, whose number is up
pub data LiesIn (tree : Tree) : ℕ → ℕ → Type 0 where
  outermost : LiesIn tree 0 0
  inside : {n up level : ℕ} {label : Label} {part : Tree} → 0 < n → IsAt tree 0 Top 0 n up label part → LiesIn tree up level → LiesIn tree n (suc level)
