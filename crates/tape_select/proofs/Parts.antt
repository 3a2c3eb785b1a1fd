-- The parts of a plan: the first of several and then the others, and what an operand and an argument are charged.
use Rattle.std.proofs.Common.{◌≡◌, ℕ, ◌+◌, ◌<◌, List, map, length, drop, get_or, refl, ap, arith}
use Rattle.std.specs.Prelude.{codes}
use Rattle.std.proofs.lemmas.List.{drop_more}
use Rattle.path_grammar.specs.Tree as tree
use Rattle.path_grammar.specs.Tree.{OneSegment, exprs_of, selectors_of}
use Rattle.json_tape.specs.Nodes.{Node}
use Rattle.tape_values.specs.Functions.{value_argued, length_value}
use Rattle.node_lists.specs.Charge.{charge_expr, charge_exprs, charge_side, charge_nested}
use Rattle.node_lists.specs.Evaluation.{result, argued}
use Rattle.query_plan.specs.Planned.{With, as_argument, both, calling, trees, all_claims, claims_of, condition_view, selection_view, stage_view, condition_step, operand_step, selection_step, nested_step, stage_step}
use Rattle.query_plan.specs.declared.plan.Condition.{Condition}
use Rattle.query_plan.specs.declared.plan.Condition.TheFolds.{fold_out-Stage}
use Rattle.query_plan.specs.declared.plan.Selection.{Selection}
use Rattle.query_plan.specs.declared.plan.Stage.{Stage}

pub stage_is : (s : Stage) → stage_view s ≡ record { tree = record { descend = s.descend; selectors = selectors_of (trees (map selection_view s.selections.items)) }; claims = all_claims (map selection_view s.selections.items) }
stage_is s = fold_out-Stage (With tree.Expr) (With tree.Comparable) (With tree.Selector) (With tree.Nested) (With OneSegment) condition_step operand_step selection_step nested_step stage_step s

pub operand_claims : (es : List Condition) (i : ℕ) (d : Condition) → i < length es
    → all_claims (map condition_view (drop i es)) ≡ both (condition_view (get_or es i d)).claims (all_claims (map condition_view (drop (i + 1) es)))
operand_claims es i d lt = ap (λ (xs : List Condition). all_claims (map condition_view xs)) (drop_more es i d lt)

pub operand_charges : (root n : Node) (es : List Condition) (i : ℕ) (d : Condition) → i < length es
    → charge_exprs root (exprs_of (trees (map condition_view (drop i es)))) n ≡ charge_expr root (condition_view (get_or es i d)).tree n + charge_exprs root (exprs_of (trees (map condition_view (drop (i + 1) es)))) n
operand_charges root n es i d lt = ap (λ (xs : List Condition). charge_exprs root (exprs_of (trees (map condition_view xs))) n) (drop_more es i d lt)

pub selection_claims : (ss : List Selection) (i : ℕ) (d : Selection) → i < length ss
    → all_claims (map selection_view (drop i ss)) ≡ both (selection_view (get_or ss i d)).claims (all_claims (map selection_view (drop (i + 1) ss)))
selection_claims ss i d lt = ap (λ (xs : List Selection). all_claims (map selection_view xs)) (drop_more ss i d lt)

pub stages_claims : (ss : List Stage) (i : ℕ) (d : Stage) → i < length ss → claims_of (drop i ss) ≡ both (stage_view (get_or ss i d)).claims (claims_of (drop (i + 1) ss))
stages_claims ss i d lt = ap (λ (xs : List Stage). claims_of xs) (drop_more ss i d lt)

-- ---- Arguments

module _ (root n : Node) where
  argued_value : (t : tree.Comparable) → value_argued (argued root (as_argument t) n) ≡ result root t n
  argued_value (tree.lit l) = refl
  argued_value (tree.single q) = refl
  argued_value (tree.func c) = refl

  pub argued_charge : (t : tree.Comparable) → charge_side root (calling (codes "length") (as_argument t)) n ≡ charge_side root t n
  argued_charge (tree.lit l) = refl
  argued_charge (tree.single q) = let e : charge_nested root q n + 0 ≡ charge_nested root q n = omega arith in e
  argued_charge (tree.func c) = omega arith

  pub length_called : (t : tree.Comparable) → result root (calling (codes "length") (as_argument t)) n ≡ length_value (result root t n)
  length_called t = ap length_value (argued_value t)
