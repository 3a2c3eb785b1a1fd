use Rattle.std.proofs.Common.{◌≡◌, map, ap, sym, ◌∙◌, rules}
use Rattle.path_grammar.specs.Tree as tree
use Rattle.path_grammar.specs.Tree.{OneSegment, exprs_of}
use Rattle.decisions.specs.Tree.{listed}
use Rattle.query_plan.specs.Planned.{With, tree_in, trees, joined, condition_view, operand_view, condition_step, operand_step, selection_step, nested_step, stage_step}
use Rattle.query_plan.specs.declared.plan.Condition.TheFolds.{fold-roll-Condition}
use Rattle.query_plan.specs.declared.plan.Condition.TheOpen.{Condition-F}
use Rattle.query_plan.specs.declared.plan.Condition.TheVariants.{rolls-Any, rolls-Each, rolls-Not, rolls-Compare, rolls-Joined}
use Rattle.query_plan.proofs.Charged.{compared_units, not_units, joined_units}
use Rattle.query_plan.proofs.units.+units.Goals as goal

pub units_of-returns-in-Any : goal.units_of-returns-in-Any
units_of-returns-in-Any t c =
    let o = fold-roll-Condition (With tree.Expr) (With tree.Comparable) (With tree.Selector) (With tree.Nested) (With OneSegment) condition_step operand_step selection_step nested_step stage_step (Condition-F.Any c.in-Any.operands) in
    let e : (condition_view c.args.condition.now).tree ≡ tree.any (exprs_of (trees (map condition_view c.in-Any.operands.items))) = ap (λ x. (condition_view x).tree) (c.in-Any.is ∙ sym (rolls-Any c.in-Any.operands)) ∙ ap tree_in o in
    rw e (rw c.deref.ensures.value at c.units_of_all.ensures)

pub units_of-returns-in-Each : goal.units_of-returns-in-Each
units_of-returns-in-Each t c =
    let o = fold-roll-Condition (With tree.Expr) (With tree.Comparable) (With tree.Selector) (With tree.Nested) (With OneSegment) condition_step operand_step selection_step nested_step stage_step (Condition-F.Each c.in-Each.operands) in
    let e : (condition_view c.args.condition.now).tree ≡ tree.each (exprs_of (trees (map condition_view c.in-Each.operands.items))) = ap (λ x. (condition_view x).tree) (c.in-Each.is ∙ sym (rolls-Each c.in-Each.operands)) ∙ ap tree_in o in
    rw e (rw c.deref-in-Each.ensures.value at c.units_of_all-in-Each.ensures)

pub units_of-returns-in-Not : goal.units_of-returns-in-Not
units_of-returns-in-Not t c =
    let o = fold-roll-Condition (With tree.Expr) (With tree.Comparable) (With tree.Selector) (With tree.Nested) (With OneSegment) condition_step operand_step selection_step nested_step stage_step (Condition-F.Not c.in-Not.operand) in
    let e : (condition_view c.args.condition.now).tree ≡ tree.not (condition_view c.in-Not.operand.value).tree = ap (λ x. (condition_view x).tree) (c.in-Not.is ∙ sym (rolls-Not c.in-Not.operand)) ∙ ap tree_in o in
    rw e (not_units c.units_of_all-in-Not.result (condition_view c.in-Not.operand.value).tree (rw c.deref-in-Not.ensures at (rw c.from_ref.ensures.value at c.units_of_all-in-Not.ensures)))

pub units_of-returns-in_ok-right-in-Compare : goal.units_of-returns-in_ok-right-in-Compare
units_of-returns-in_ok-right-in-Compare t c =
    let o = fold-roll-Condition (With tree.Expr) (With tree.Comparable) (With tree.Selector) (With tree.Nested) (With OneSegment) condition_step operand_step selection_step nested_step stage_step (Condition-F.Compare c.in-Compare.left c.in-Compare.field-1 c.in-Compare.right) in
    let e : (condition_view c.args.condition.now).tree ≡ tree.compare (operand_view c.in-Compare.left).tree c.in-Compare.field-1 (operand_view c.in-Compare.right).tree = ap (λ x. (condition_view x).tree) (c.in-Compare.is ∙ sym (rolls-Compare c.in-Compare.left c.in-Compare.field-1 c.in-Compare.right)) ∙ ap tree_in o in
    rw e (compared_units c.checked_add.result _ _ c.in-Compare.field-1 c.in_ok-left-in-Compare.left c.in_ok-right-in-Compare.right c.in_ok-left-in-Compare.ensures c.in_ok-right-in-Compare.ensures (search rules))

pub units_of-returns-in-Joined : goal.units_of-returns-in-Joined
units_of-returns-in-Joined t c =
    let o = fold-roll-Condition (With tree.Expr) (With tree.Comparable) (With tree.Selector) (With tree.Nested) (With OneSegment) condition_step operand_step selection_step nested_step stage_step (Condition-F.Joined c.in-Joined.is_any c.in-Joined.numbers c.in-Joined.parts) in
    let e : (condition_view c.args.condition.now).tree ≡ listed c.in-Joined.is_any (joined c.in-Joined.is_any c.in-Joined.numbers.items (trees (map condition_view c.in-Joined.parts.items))) = ap (λ x. (condition_view x).tree) (c.in-Joined.is ∙ sym (rolls-Joined c.in-Joined.is_any c.in-Joined.numbers c.in-Joined.parts)) ∙ ap tree_in o in
    rw e (rw c.deref-in-Joined.ensures.value at (rw c.deref-in-Joined-2.ensures.value at c.units_of_joined.ensures))

pub units_of_joined-returns : goal.units_of_joined-returns
units_of_joined-returns t c = joined_units c.units_of_all.result c.args.is_any c.args.numbers.now (trees (map condition_view c.args.parts.now)) c.units_of_all.ensures
