-- What is charged for each child of each document.
use Rattle.std.proofs.Common.{◌≡◌, ℕ, ◌+◌, Bool, List, Option, Some, None, ◌∙◌, arith}
use Rattle.std.specs.Prelude.{IfSome, codes}
use Rattle.json_text.specs.Nodes.{Node}
use Rattle.path_grammar.specs.Tree as tree
use Rattle.path_grammar.specs.Tree.{Comparable, Expr, exprs_of}
use Rattle.path_grammar.specs.declared.ast.Op.{Op}
use Rattle.path_meaning.specs.Charge.{charge_side, charge_expr, charge_exprs}
use Rattle.decisions.specs.Tree.{listed}
use Rattle.query_plan.specs.Planned.{as_argument, calling, joined}
use Rattle.query_plan.proofs.Joining.{charge_listed}
use Rattle.query_plan.proofs.Operands.{argued_charge}

pub length_units : (r : Option ℕ) (a : Comparable) → IfSome r (λ units. (root n : Node) → charge_side root a n ≡ units) → IfSome r (λ units. (root n : Node) → charge_side root (calling (codes "length") (as_argument a)) n ≡ units)
length_units None a h = tt
length_units (Some units) a h = λ root n. argued_charge root n a ∙ h root n

pub compared_units : (r : Option ℕ) (a b : Comparable) (op : Op) (l m : ℕ) → ((root n : Node) → charge_side root a n ≡ l) → ((root n : Node) → charge_side root b n ≡ m) → IfSome r (λ units. units ≡ l + m)
    → IfSome r (λ units. (root n : Node) → charge_expr root (tree.compare a op b) n ≡ units)
compared_units None a b op l m f g h = tt
compared_units (Some units) a b op l m f g h = λ root n. let p = f root n in let q = g root n in omega (arith, p, q, h)

pub not_units : (r : Option ℕ) (e : Expr) → IfSome r (λ units. (root n : Node) → charge_exprs root (tree.expr e tree.no_exprs) n ≡ units) → IfSome r (λ units. (root n : Node) → charge_expr root (tree.not e) n ≡ units)
not_units None e h = tt
not_units (Some units) e h = λ root n. let p = h root n in omega (arith, p)

pub joined_units : (r : Option ℕ) (is_any : Bool) (ks : List ℕ) (es : List Expr) → IfSome r (λ units. (root n : Node) → charge_exprs root (exprs_of es) n ≡ units)
    → IfSome r (λ units. (root n : Node) → charge_expr root (listed is_any (joined is_any ks es)) n ≡ units)
joined_units None is_any ks es h = tt
joined_units (Some units) is_any ks es h = λ root n. charge_listed root n is_any ks es ∙ h root n
