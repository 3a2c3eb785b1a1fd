-- What the builder on the index promises of the looks that it takes.
use Rattle.std.specs.Prelude.{◌≤◌, ℕ, ◌+◌, ◌*◌, List, length}
use Rattle.structural_index.specs.Places.{places}
use Rattle.json_text.specs.Tree.{Tree}
use Rattle.json_text.specs.Grammar.{IsText}
use Rattle.json_walk.specs.Counting.{source_bytes}

-- at most three looks for each place and one for each source byte of a name, a string, a number or a word
abbrev pub IsBounded : List ℕ → (before now : ℕ) → Type 0
IsBounded text before now = (t : Tree) → IsText text t → now ≤ before + (3 * length (places text) + source_bytes t)
