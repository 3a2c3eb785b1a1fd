-- Why a query is not evaluated on a text, from the verdict on the text, and why its lines are not refused for a path.
use Rattle.std.proofs.Common.{ℕ, suc, List, [], ◌∷◌, map, take, arith}
use Rattle.std.specs.List.{All}
use Rattle.std.proofs.lemmas.List.Elements.{All-take}
use Rattle.json_text.specs.Answer.{Explains, NoneApplies}
use Rattle.json_text.specs.Tree.{Tree}
use Rattle.json_text.specs.Verdict.{IsAccepted}
use Rattle.json_text.specs.declared.tape.TextFault.{TextFault}
use Rattle.json_text.specs.declared.tape.TextFault.TheVariants as text
use Rattle.json_tape.specs.Nodes.{Node}
use Rattle.path_grammar.specs.Tree.{Segments}
use Rattle.path_law.specs.Law.{LeadsBack, PathsLeadBack}
use Rattle.tape_select.specs.Evaluation.{nodes_selected}
use Rattle.client_lines.specs.Answers.{found_in}
use Rattle.client_lines.specs.Faults.{RefusesQuery, fault_of}
use Rattle.client_lines.specs.Lines.{AreUtf8, RefusesHits}
use Rattle.client_lines.specs.Naming.{RefusesName}
use Rattle.client_lines.specs.declared.documents.LineFault.{LineFault}
use Rattle.client_lines.specs.declared.documents.LineFault.TheVariants.{NotUtf8, NotJson, NoName, NoText, NoDocument, Costly, Memory}

pub accepted_is_faultless : (bytes : List ℕ) (tree : Tree) → IsAccepted bytes tree → NoneApplies bytes 2
accepted_is_faultless bytes tree accepted fault below applies = accepted.1 fault applies

pub refused_text : (query : Segments) (bytes : List ℕ) (fault : TextFault) → Explains bytes fault → RefusesQuery query bytes (fault_of fault)
refused_text query bytes text.TooLong e = e
refused_text query bytes text.NotUtf8 e = e
refused_text query bytes text.NotJson e = e
refused_text query bytes text.TooDeep e = e
refused_text query bytes text.NumberLimit e = e
refused_text query bytes text.LoneSurrogate e = e
refused_text query bytes text.DuplicateName e = e
refused_text query bytes text.Memory e = e

pub no_name_of : (query : Segments) (bytes : List ℕ) (fault : TextFault) → Explains bytes fault → RefusesName query bytes (fault_of fault)
no_name_of query bytes text.TooLong e = e
no_name_of query bytes text.NotUtf8 e = e
no_name_of query bytes text.NotJson e = e
no_name_of query bytes text.TooDeep e = e
no_name_of query bytes text.NumberLimit e = e
no_name_of query bytes text.LoneSurrogate e = e
no_name_of query bytes text.DuplicateName e = e
no_name_of query bytes text.Memory e = e

are_utf8 : (tree : Tree) (name : List ℕ) (nodes : List Node) → All (LeadsBack tree) nodes → AreUtf8 (map (found_in name) nodes)
are_utf8 tree name [] all = tt
are_utf8 tree name (node ∷ nodes) all = ((all 0 node (omega arith)).spelled.utf8, are_utf8 tree name nodes (λ k other lt. all (suc k) other (omega (arith, lt))))

-- the paths of nodes are UTF-8, so that only memory is wanting
pub only_memory : PathsLeadBack → (query : Segments) (bytes : List ℕ) (tree : Tree) → IsAccepted bytes tree → (name : List ℕ) (limit : ℕ) (fault : LineFault) → RefusesHits (map (found_in name) (take limit (nodes_selected tree query))) fault → RefusesQuery query bytes fault
only_memory law query bytes tree accepted name limit NotUtf8 refused = absurd (refused (are_utf8 tree name (take limit (nodes_selected tree query)) (All-take (LeadsBack tree) limit (nodes_selected tree query) (law bytes tree query accepted))))
only_memory law query bytes tree accepted name limit NotJson refused = absurd refused
only_memory law query bytes tree accepted name limit NoName refused = absurd refused
only_memory law query bytes tree accepted name limit NoText refused = absurd refused
only_memory law query bytes tree accepted name limit (NoDocument fault) refused = absurd refused
only_memory law query bytes tree accepted name limit Costly refused = absurd refused
only_memory law query bytes tree accepted name limit Memory refused = accepted_is_faultless bytes tree accepted
