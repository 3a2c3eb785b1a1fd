-- The law of paths (RFC 9535, section 2.7): what the normalized path of a node gives, asked as a query on the same text.
use Rattle.std.specs.Prelude.{◌≡◌, ℕ, suc, ◌≤◌, List, [], ◌∷◌, IsTrue}
use Rattle.std.specs.List.{All}
use Rattle.json_tape.specs.Tree.{Tree}
use Rattle.json_tape.specs.Nodes.{Node}
use Rattle.json_tape.specs.Verdict.{IsAccepted, depth_limit}
use Rattle.path_grammar.specs.Tree.{Segments, no_segments, segment}
use Rattle.path_grammar.specs.Grammar.{IsQuery}
use Rattle.path_types.specs.Validity.{is_valid}
use Rattle.tape_select.specs.Evaluation.{nodes_selected}
use Rattle.tape_select.specs.Charge.{charge}
use Rattle.tape_select.specs.Budget.{budget}
use Rattle.normal_paths.specs.NormalPath.{normal_path}

abbrev pub segment_count : Segments → ℕ
segment_count no_segments = 0
segment_count (segment descend ss others) = suc (segment_count others)

-- The node's path spells a valid query within the budget, which selects this node alone. It has at most as many segments as containers may lie in one another, and is charged no more than one unit for each. The limit on the length of a query is not asked for.
pub record LeadsBack (t : Tree) (n : Node) : Type 0 where
  pub query : Segments
  pub spelled : IsQuery (normal_path n) query
  pub valid : IsTrue (is_valid query)
  pub few : segment_count query ≤ depth_limit
  pub charged : charge t query ≤ segment_count query
  pub within : charge t query ≤ budget
  pub alone : nodes_selected t query ≡ n ∷ []

-- each node that a query selects from an accepted text
abbrev pub PathsLeadBack : Type 0
PathsLeadBack = (document : List ℕ) (t : Tree) (q : Segments) → IsAccepted document t → All (LeadsBack t) (nodes_selected t q)
