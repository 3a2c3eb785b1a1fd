-- A law that the grammar has to meet.
use Rattle.std.specs.Prelude.{◌≡◌, ℕ, List}
use Rattle.path_grammar.specs.Tree.{Segments}
use Rattle.path_grammar.specs.Grammar.{IsQuery}

-- a query text has at most one tree
abbrev pub HaveOneTree : Type 0
HaveOneTree = (bytes : List ℕ) (a b : Segments) → IsQuery bytes a → IsQuery bytes b → a ≡ b
