-- What is asked of the nodelist of a query in a filter.
use Rattle.std.proofs.lemmas.List.{length-map}
use Rattle.std.proofs.Common.{◌≡◌, ◌≤◌, List, [], ◌∷◌, length, None, refl, sym, ap, ◌∙◌, arith}
use Rattle.path_grammar.specs.Tree.{Segments, no_segments, segment}
use Rattle.json_tape.specs.Document.{Doc, node_at, IsIn}
use Rattle.json_tape.specs.Nodes.{Node}
use Rattle.json_text.specs.declared.tape.NodeId.{NodeId}
use Rattle.tape_values.specs.Functions.{only_value}
use Rattle.node_lists.specs.Evaluation.{evaluated}
use Rattle.node_lists.specs.Charge.{charge_from}
use Rattle.tape_select.specs.Memo.{IsFound}
use Rattle.compared_sides.specs.Values.{value_found}
use Rattle.node_lists.specs.Nodelists.{nodes_of}
use Rattle.query_plan.specs.Planned.{path_of, query_of}
use Rattle.node_lists.specs.Links.{links_view}
use Rattle.path_meaning.specs.declared.links.Link.{Link}
use Rattle.query_plan.specs.declared.plan.Stage.{Stage}
use Rattle.tape_select.specs.declared.state.Found.{Found}
use Rattle.query_plan.specs.Laws.{FollowsLinks}

-- no nodes give no nodes, for nothing
pub nothing_from_nothing : (root : Node) (q : Segments) → evaluated root q [] ≡ []
nothing_from_nothing root no_segments = refl
nothing_from_nothing root (segment descend ss others) = nothing_from_nothing root others

pub nothing_for_nothing : (root : Node) (q : Segments) → charge_from root q [] ≡ 0
nothing_for_nothing root no_segments = refl
nothing_for_nothing root (segment descend ss others) = let h = nothing_for_nothing root others in omega (arith, h)

pub more_nodes : (d : Doc) (ids : List NodeId) → 2 ≤ length ids → only_value (nodes_of d ids) ≡ None
more_nodes d [] h = absurd (omega arith)
more_nodes d (x ∷ []) h = absurd (omega arith)
more_nodes d (x ∷ y ∷ xs) h = refl

pub length_nodes : (d : Doc) (ids : List NodeId) → length (nodes_of d ids) ≡ length ids
length_nodes d ids = length-map ids (λ id. node_at d id.0)

pub ruleset lists = (length_nodes, more_nodes)

-- what is asked of the nodes that are selected at last
pub found_through : (law : FollowsLinks) (d : Doc) (ls : List Link) (ss : List Stage) (from : Node) (first : List Node) (ids : List NodeId) (f : Found) → first ≡ evaluated (node_at d 0) (links_view ls) (from ∷ [])
    → nodes_of d ids ≡ evaluated (node_at d 0) (query_of ss) first → only_value (nodes_of d ids) ≡ value_found d f.only → IsIn d f.only → f.total ≡ length (nodes_of d ids)
    → f.charge ≡ charge_from (node_at d 0) (path_of ls ss) (from ∷ []) → IsFound d from (path_of ls ss) f
found_through law d ls ss from first ids f a b value inside total charge =
    let root = node_at d 0 in
    let e : evaluated root (path_of ls ss) (from ∷ []) ≡ nodes_of d ids = law.found root ss ls (from ∷ []) ∙ sym (b ∙ ap (λ ns. evaluated root (query_of ss) ns) a) in
    record { value = rw e value; inside = inside; total = rw e total; charge = charge }
