-- The name that a query tells of a document: the string that is the first node which it selects (RFC 9535).
use Rattle.std.specs.Prelude.{◌≡◌, ℕ, ◌≤◌, List, [], ◌∷◌, Option, Some, None, false, flat_map, encode_utf8}
use Rattle.json_text.specs.Meaning.{meaning}
use Rattle.json_tape.specs.Nodes.{Node}
use Rattle.json_tape.specs.Tree.{Tree, Leaf, Str}
use Rattle.json_tape.specs.Verdict.{IsAccepted}
use Rattle.path_grammar.specs.Singular.{is_singular}
use Rattle.path_grammar.specs.Tree.{Segments}
use Rattle.path_types.specs.Verdict.{IsValidQuery}
use Rattle.tape_select.specs.Budget.{budget}
use Rattle.tape_select.specs.Charge.{charge}
use Rattle.tape_select.specs.Evaluation.{nodes_selected}
use Rattle.client_lines.specs.Faults.{RefusesQuery}
use Rattle.client_lines.specs.declared.documents.LineFault.{LineFault}
use Rattle.client_lines.specs.declared.documents.LineFault.TheVariants.{NoName}

-- no singular query is spelled by the text (RFC 9535, section 2.3.5.1)
abbrev pub IsNoNameQuery : (text : List ℕ) → Type 0
IsNoNameQuery text = (query : Segments) → IsValidQuery text query → is_singular query ≡ false

-- the string that a value is, in UTF-8
abbrev pub string_of : Tree → Option (List ℕ)
string_of (Leaf source (Str characters)) = Some (flat_map encode_utf8 (meaning characters))
string_of tree = None

-- the string that the first of some nodes is
abbrev pub first_string : List Node → Option (List ℕ)
first_string [] = None
first_string (node ∷ nodes) = string_of node.tree

-- the text is a document of which the query tells this name, or none
abbrev pub TellsName : (query : Segments) (text : List ℕ) → Option (List ℕ) → Type 0
TellsName query text name = (tree : Tree) × IsAccepted text tree × (charge tree query ≤ budget) × (first_string (nodes_selected tree query) ≡ name)

-- why it tells no name
abbrev pub RefusesName : (query : Segments) (text : List ℕ) → LineFault → Type 0
RefusesName query text NoName = TellsName query text None
RefusesName query text fault = RefusesQuery query text fault
