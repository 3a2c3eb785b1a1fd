use Rattle.std.proofs.Common.{◌≡◌, map, refl, sym, ap, ◌∙◌}
use Rattle.decisions.specs.Tree.{Tested, value, two, present}
use Rattle.decisions.specs.declared.test.Test.TheFolds.{fold_out-Test}
use Rattle.decisions.specs.Places.{from_place}
use Rattle.decisions.specs.Truth.{truth_by}
use Rattle.decisions.specs.Views.{constant_view, constant_value, test_step, test_view}
use Rattle.decisions.proofs.Cells.{same_cells}
use Rattle.decisions.proofs.tables.+tabling.Goals as goal

pub table-returns-in-Value : goal.table-returns-in-Value
unfolding Rattle.decisions.specs.declared.test.Test.TheViews.out-Test denote.Hole.Carrier.out
table-returns-in-Value t c =
    let e : test_view c.args.test.now ≡ value c.in-Value.op (constant_view c.in-Value.literal) = fold_out-Test Tested test_step c.args.test.now ∙ rw c.in-Value.is refl in
    same_cells c.one_table.result _ _ _ (λ p. ap (truth_by (from_place (map constant_value c.args.literals.now) c.args.kind p) c.args.relation) (sym e)) c.one_table.ensures

pub table-returns-in-Literals : goal.table-returns-in-Literals
unfolding Rattle.decisions.specs.declared.test.Test.TheViews.out-Test denote.Hole.Carrier.out
table-returns-in-Literals t c =
    let e : test_view c.args.test.now ≡ two (constant_view c.in-Literals.left) c.in-Literals.op (constant_view c.in-Literals.right) = fold_out-Test Tested test_step c.args.test.now ∙ rw c.in-Literals.is refl in
    same_cells c.all_cells.result _ _ _ (λ p. c.compare_two-truth.ensures ∙ ap (truth_by (from_place (map constant_value c.args.literals.now) c.args.kind p) c.args.relation) (sym e)) c.all_cells.ensures

pub table-returns-in-Present : goal.table-returns-in-Present
unfolding Rattle.decisions.specs.declared.test.Test.TheViews.out-Test denote.Hole.Carrier.out
table-returns-in-Present t c =
    let e : test_view c.args.test.now ≡ present c.in-Present.field-0 = fold_out-Test Tested test_step c.args.test.now ∙ rw c.in-Present.is refl in
    same_cells c.all_cells-in-Present.result _ _ _ (λ p. ap (truth_by (from_place (map constant_value c.args.literals.now) c.args.kind p) c.args.relation) (sym e)) c.all_cells-in-Present.ensures
