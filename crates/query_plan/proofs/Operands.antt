-- What operands and arguments are charged.
use Rattle.std.proofs.Common.{◌≡◌, ℕ, ◌+◌, ◌<◌, List, map, length, drop, get_or, refl, ap, arith}
use Rattle.std.specs.Prelude.{codes}
use Rattle.std.proofs.lemmas.List.{drop_more}
use Rattle.path_grammar.specs.Tree as tree
use Rattle.path_grammar.specs.Tree.{exprs_of}
use Rattle.json_text.specs.Nodes.{Node}
use Rattle.path_meaning.specs.Charge.{charge_expr, charge_exprs, charge_side, charge_nested}
use Rattle.query_plan.specs.Planned.{trees, as_argument, calling, condition_view}
use Rattle.query_plan.specs.declared.plan.Condition.{Condition}

pub operand_charges : (root n : Node) (es : List Condition) (i : ℕ) (d : Condition) → i < length es
    → charge_exprs root (exprs_of (trees (map condition_view (drop i es)))) n ≡ charge_expr root (condition_view (get_or es i d)).tree n + charge_exprs root (exprs_of (trees (map condition_view (drop (i + 1) es)))) n
operand_charges root n es i d lt = ap (λ (xs : List Condition). charge_exprs root (exprs_of (trees (map condition_view xs))) n) (drop_more es i d lt)

module _ (root n : Node) where
  pub argued_charge : (t : tree.Comparable) → charge_side root (calling (codes "length") (as_argument t)) n ≡ charge_side root t n
  argued_charge (tree.lit l) = refl
  argued_charge (tree.single q) = let e : charge_nested root q n + 0 ≡ charge_nested root q n = omega arith in e
  argued_charge (tree.func c) = omega arith
