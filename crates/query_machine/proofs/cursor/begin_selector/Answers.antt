use Rattle.std.proofs.Common.{◌≡◌, ◌∙◌, ap, sym, refl, arith}
use Rattle.std.proofs.lemmas.Result.{err_from_is_err_and}
use Rattle.json_tape.specs.Document.{node_at}
use Rattle.query_machine.proofs.Charges.{one_unit}
use Rattle.path_grammar.specs.Tree as tree
use Rattle.path_grammar.specs.Tree.{OneSegment}
use Rattle.path_meaning.specs.Links.{link_selector}
use Rattle.query_plan.specs.Planned.{With, tree_in, condition_view, selection_view, condition_step, operand_step, selection_step, nested_step, stage_step}
use Rattle.query_plan.specs.declared.plan.Condition.TheOpen.{Selection-F}
use Rattle.query_plan.specs.declared.plan.Condition.TheFolds.{fold-roll-Selection}
use Rattle.query_plan.specs.declared.plan.Selection.TheVariants.{rolls-One, rolls-Wild, rolls-Sliced, rolls-Where}
use Rattle.query_machine.proofs.Steps.{a_unit, begins_children, begins_stride, refuses_selector, selects}
use Rattle.query_machine.proofs.cursor.begin_selector.Goals as goal

pub returns-in_err-spend : goal.returns-in_err-spend
returns-in_err-spend c =
    let d = c.args.doc.now in
    let u = c.args.c.now in
    let r = c.requires in
    let p = err_from_is_err_and c.from_residual.result c.from_residual.ensures.1 in
    rw (p.1, p.2)
    (refuses_selector d c.args.stage.now u r.child r.passed r.visits r.end c.args.selection.now r.within r.next c.args.meter.now.left c.in_err-spend.field-0.0 (a_unit (node_at d 0) (node_at d u.visit) (selection_view c.args.selection.now).tree)
    c.in_err-spend.ensures)

pub returns-in-One : goal.returns-in-One
returns-in-One c =
    let d = c.args.doc.now in
    let u = c.args.c.now in
    let r = c.requires in
    let o = fold-roll-Selection (With tree.Expr) (With tree.Comparable) (With tree.Selector) (With tree.Nested) (With OneSegment) condition_step operand_step selection_step nested_step stage_step (Selection-F.One c.in-One.link) in
    let is : (selection_view c.args.selection.now).tree ≡ link_selector c.in-One.link = ap (λ x. (selection_view x).tree) (c.in-One.is ∙ sym (rolls-One c.in-One.link)) ∙ ap tree_in o in
    selects d c.args.stage.now u r.child r.passed r.visits r.end r.stride c.args.selection.now r.within r.next c.step.result c.args.meter.now.left c.spend.new.self.left (rw is c.step.ensures.node) (rw is (one_unit (node_at d 0) (node_at d u.visit) c.in-One.link)) c.in_ok-spend.ensures c.step.ensures.inside

pub returns-in-Sliced : goal.returns-in-Sliced
returns-in-Sliced c =
    let d = c.args.doc.now in
    let u = c.args.c.now in
    let r = c.requires in
    let o = fold-roll-Selection (With tree.Expr) (With tree.Comparable) (With tree.Selector) (With tree.Nested) (With OneSegment) condition_step operand_step selection_step nested_step stage_step (Selection-F.Sliced c.in-Sliced.start c.in-Sliced.stop c.in-Sliced.step) in
    let is : (selection_view c.args.selection.now).tree ≡ tree.slice c.in-Sliced.start c.in-Sliced.stop c.in-Sliced.step = ap (λ x. (selection_view x).tree) (c.in-Sliced.is ∙ sym (rolls-Sliced c.in-Sliced.start c.in-Sliced.stop c.in-Sliced.step)) ∙ ap tree_in o in
    let e = c.stride_at-c.ensures in
    begins_stride d c.args.stage.now u r.child r.passed r.visits r.end r.stride c.args.selection.now r.within r.next c.stride_at-c.result c.args.meter.now.left c.spend.new.self.left (rw is e.same) (rw (is, e.same) refl) c.in_ok-spend.ensures e.fits

pub returns-in-Wild : goal.returns-in-Wild
returns-in-Wild c =
    let d = c.args.doc.now in
    let u = c.args.c.now in
    let r = c.requires in
    let o = fold-roll-Selection (With tree.Expr) (With tree.Comparable) (With tree.Selector) (With tree.Nested) (With OneSegment) condition_step operand_step selection_step nested_step stage_step (Selection-F.Wild) in
    let is : (selection_view c.args.selection.now).tree ≡ tree.wild = ap (λ x. (selection_view x).tree) (c.in-Wild.is ∙ sym (rolls-Wild)) ∙ ap tree_in o in
    begins_children d c.args.stage.now u r.child r.passed r.visits r.end r.stride c.args.selection.now r.within r.next c.first_child-c.result c.args.meter.now.left c.spend.new.self.left c.first_child-c.ensures.nodes (rw is refl) (rw is refl) c.in_ok-spend.ensures c.first_child-c.ensures.inside

pub returns-in-Where : goal.returns-in-Where
returns-in-Where c =
    let d = c.args.doc.now in
    let u = c.args.c.now in
    let r = c.requires in
    let o = fold-roll-Selection (With tree.Expr) (With tree.Comparable) (With tree.Selector) (With tree.Nested) (With OneSegment) condition_step operand_step selection_step nested_step stage_step (Selection-F.Where c.in-Where.field-0) in
    let is : (selection_view c.args.selection.now).tree ≡ tree.filter (condition_view c.in-Where.field-0.value).tree = ap (λ x. (selection_view x).tree) (c.in-Where.is ∙ sym (rolls-Where c.in-Where.field-0)) ∙ ap tree_in o in
    begins_children d c.args.stage.now u r.child r.passed r.visits r.end r.stride c.args.selection.now r.within r.next c.first_child-c-in-Where.result c.args.meter.now.left c.spend.new.self.left c.first_child-c-in-Where.ensures.nodes (rw is refl) (rw is (omega arith)) c.in_ok-spend.ensures
    c.first_child-c-in-Where.ensures.inside
