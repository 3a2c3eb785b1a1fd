use Rattle.std.proofs.Common.{rules, refl, length, map, ◌≡◌, ◌+◌, flat_map}
use Rattle.std.specs.Prelude.{IsTrue}
use Rattle.json_tape.specs.Document.{node_at}
use Rattle.json_tape.specs.Nodes.{children}
use Rattle.node_lists.specs.Evaluation.{starts}
use Rattle.path_grammar.specs.Tree.{selectors_of}
use Rattle.query_plan.specs.Planned.{selection_view, trees}
use Rattle.query_machine.specs.Cursors.{AreUnasked}
use Rattle.query_machine.proofs.Leaves.{counted_one, most_if}
use Rattle.query_machine.proofs.placing.most_units.Goals as goal
use Rattle.query_machine.proofs.placing.most_units.Goals.{then-stage, else-stage}

pub returns : goal.returns
returns c =
    let d = c.args.doc.now in
    let s = c.args.stage.now in
    let k = c.args.n.0 in
    let n = node_at d k in
    let yes : IsTrue c.are_unasked.result = search rules in
    let h : AreUnasked (selectors_of (trees (map selection_view s.selections.items))) = rw c.deref.ensures.value at (c.are_unasked.ensures yes) in
    let nodes : length (starts s.descend n) + length (flat_map children (starts s.descend n)) ≡ c.if-stage.nodes = elim c.if-stage.branch [
      | then-stage w ↦ rw (w.if-stage.true, w.nodes-is, w.from.ensures, w.visit_total.ensures, w.from-then-stage.ensures, w.below_total.ensures) refl
      | else-stage w ↦ rw (w.if-stage.false, w.nodes-is, w.from-else-stage.ensures) (counted_one n w.child_total.result w.child_total.ensures)
    ] in
    most_if d s n c.checked_mul.result c.if-stage.nodes (search rules) h nodes
