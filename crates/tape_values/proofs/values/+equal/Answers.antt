use Rattle.std.proofs.Common.{◌≡◌, sym, ◌∙◌, length}
use Rattle.json_tape.specs.Nodes.{children}
use Rattle.json_tape.specs.Document.{node_at, following}
use Rattle.tape_values.specs.Pairs.{each_has_twin}
use Rattle.tape_values.proofs.Members.{objects_met, values_met}
use Rattle.tape_values.proofs.Twins.{guess_there}
use Rattle.tape_values.proofs.values.+equal.Goals as goal

pub equal_objects-returns-then-member_total-total : goal.equal_objects-returns-then-member_total-total
equal_objects-returns-then-member_total-total t c =
    let m = node_at c.args.doc.now c.args.a.0 in
    let n = node_at c.args.doc.now c.args.b.0 in
    let l : length (children m) ≡ length (children n) = sym c.member_total.ensures ∙ c.if-member_total-total.true ∙ c.member_total-total.ensures in
    let h : c.have_twins.result ≡ each_has_twin (children m) (children n) = rw (← c.first_child.ensures.nodes, ← c.first_child-then-member_total-total.ensures.nodes) c.have_twins.ensures in
    objects_met m n c.have_twins.result c.requires.left_object c.requires.right_object l h

pub equal_values-returns-in_default : goal.equal_values-returns-in_default
equal_values-returns-in_default t c =
    let d = c.args.doc.now in
    values_met (node_at d c.args.a.0).tree (node_at d c.args.b.0).tree _ _ c.equal_contents.result c.value_content.ensures.value c.value_content-in_default.ensures.value c.equal_contents.ensures

pub has_twin-returns-then-is_twin-clause-has : goal.has_twin-returns-then-is_twin-clause-has
has_twin-returns-then-is_twin-clause-has t c =
    let d = c.args.doc.now in
    sym (guess_there d (node_at d c.args.m.0) (following d c.args.first) (children (node_at d c.args.object.0)) c.guess-guess.result c.is_twin.result c.requires.members c.guess-guess.ensures.among c.is_twin.ensures c.if-is_twin.true)
