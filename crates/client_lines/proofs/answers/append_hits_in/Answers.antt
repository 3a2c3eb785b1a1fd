use Rattle.std.proofs.Common.{◌≡◌, ℕ, zero, suc, List, [], ◌∷◌, ◌++◌, take, map, ap, subst, ◌∙◌, refl}
use Rattle.std.proofs.lemmas.Result.{IfErr-weaker, on_ok_weaker}
use Rattle.json_tape.specs.Document.{Doc, node_at, tree_of}
use Rattle.json_tape.specs.Nodes.{Node}
use Rattle.json_text.specs.declared.tape.NodeId.{NodeId}
use Rattle.path_grammar.specs.View.{query_view}
use Rattle.tape_select.specs.Nodelists.{nodes_of}
use Rattle.client_lines.specs.Answers.{found_in, node_lines}
use Rattle.client_lines.specs.Lines.{RefusesHits}
use Rattle.client_lines.proofs.Refusals.{only_memory}
use Rattle.client_lines.proofs.answers.append_hits_in.Goals as goal

take_nodes : (d : Doc) (n : ℕ) (ids : List NodeId) → nodes_of d (take n ids) ≡ take n (nodes_of d ids)
take_nodes d zero ids = refl
take_nodes d (suc n) [] = refl
take_nodes d (suc n) (id ∷ ids) = ap (λ ns. node_at d id.0 ∷ ns) (take_nodes d n ids)

pub returns-in-Ok-select-clause-lines : goal.returns-in-Ok-select-clause-lines
returns-in-Ok-select-clause-lines c =
    let d = c.in-Ok.document in
    let same = ap (nodes_of d) (c.first.ensures ∙ ap (take c.args.limit) c.as_slice.ensures.value) ∙ take_nodes d c.args.limit c.in-Ok-select.selected.nodes.items ∙ ap (take c.args.limit) c.in-Ok-select.ensures.nodes in
    on_ok_weaker c.append_nodes.result (λ h. record {
      tree = tree_of d;
      accepted = c.in-Ok.ensures.1;
      within = c.in-Ok-select.ensures.within refl;
      appended = h ∙ ap (λ ns. c.args.out.now.items ++ node_lines c.args.json c.args.name.bytes.now ns) same;
    }) c.append_nodes.ensures.lines

pub returns-in-Ok-select-clause-refused : goal.returns-in-Ok-select-clause-refused
returns-in-Ok-select-clause-refused c =
    let d = c.in-Ok.document in
    let same = ap (nodes_of d) (c.first.ensures ∙ ap (take c.args.limit) c.as_slice.ensures.value) ∙ take_nodes d c.args.limit c.in-Ok-select.selected.nodes.items ∙ ap (take c.args.limit) c.in-Ok-select.ensures.nodes in
    IfErr-weaker c.append_nodes.result _ _ (λ fault h. only_memory c.paths_lead_back.ensures (query_view c.args.query.now) c.args.text.now (tree_of d) c.in-Ok.ensures.1 c.args.name.bytes.now c.args.limit fault (subst (λ (ns : List Node). RefusesHits (map (found_in c.args.name.bytes.now) ns) fault) same h)) c.append_nodes.ensures.refused
