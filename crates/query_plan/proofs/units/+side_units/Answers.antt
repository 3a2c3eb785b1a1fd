use Rattle.std.proofs.Common.{◌≡◌, ap, sym, ◌∙◌}
use Rattle.std.specs.Prelude.{codes}
use Rattle.path_grammar.specs.Tree as tree
use Rattle.path_grammar.specs.Tree.{OneSegment}
use Rattle.query_plan.specs.Planned.{With, tree_in, as_argument, calling, operand_view, condition_step, operand_step, selection_step, nested_step, stage_step}
use Rattle.query_plan.specs.declared.plan.Condition.TheFolds.{fold-roll-Operand}
use Rattle.query_plan.specs.declared.plan.Condition.TheOpen.{Operand-F}
use Rattle.query_plan.specs.declared.plan.Operand.TheVariants.{rolls-Length}
use Rattle.query_plan.proofs.Charged.{length_units}
use Rattle.query_plan.proofs.units.+side_units.Goals as goal

pub units_of_call-returns-in-Length : goal.units_of_call-returns-in-Length
units_of_call-returns-in-Length t c =
    let inner = (operand_view c.in-Length.operand.value).tree in
    let o = fold-roll-Operand (With tree.Expr) (With tree.Comparable) (With tree.Selector) (With tree.Nested) (With OneSegment) condition_step operand_step selection_step nested_step stage_step (Operand-F.Length c.in-Length.operand) in
    let e : (operand_view c.args.operand.now).tree ≡ calling (codes "length") (as_argument inner) = ap (λ x. (operand_view x).tree) (c.in-Length.is ∙ sym (rolls-Length c.in-Length.operand)) ∙ ap tree_in o in
    rw e (length_units c.units_of_side.result inner (rw c.deref.ensures at c.units_of_side.ensures))
