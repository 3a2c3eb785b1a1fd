-- What a client prints of a query on one document that it has whole: a line for each of the first hits (RFC 9535), within the budget of a server.
use Rattle.std.specs.Prelude.{◌≡◌, ◌≤◌, ℕ, Bool, List, ◌++◌, take, map, flat_map}
use Rattle.json_tape.specs.Nodes.{Node}
use Rattle.json_tape.specs.Tree.{Tree, source_of}
use Rattle.json_tape.specs.Verdict.{IsAccepted}
use Rattle.normal_paths.specs.NormalPath.{normal_path}
use Rattle.path_grammar.specs.Tree.{Segments}
use Rattle.tape_select.specs.Budget.{budget}
use Rattle.tape_select.specs.Charge.{charge}
use Rattle.tape_select.specs.Evaluation.{nodes_selected}
use Rattle.client_frames.specs.Payloads.{Found}
use Rattle.client_lines.specs.Lines.{line_in}

-- a node of a document of this name, as a hit
abbrev pub found_in : List ℕ → Node → Found
found_in name node = record { document = name; path = normal_path node; value = (source_of node.tree).bytes }

-- at most so many of the lines of nodes
abbrev pub node_lines : (json : Bool) (name : List ℕ) → List Node → List ℕ
node_lines json name nodes = flat_map (line_in json) (map (found_in name) nodes)

pub record Tells (query : Segments) (name text : List ℕ) (json : Bool) (limit : ℕ) (old new : List ℕ) : Type 0 where
  pub tree : Tree
  pub accepted : IsAccepted text tree
  pub within : charge tree query ≤ budget
  pub appended : new ≡ old ++ node_lines json name (take limit (nodes_selected tree query))
