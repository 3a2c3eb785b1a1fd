-- Conditions that are decided beforehand, or in parts: what is found and what is paid.
use Rattle.std.proofs.Common.{◌≡◌, ℕ, zero, suc, ◌+◌, ◌-◌, ◌*◌, ◌<◌, Bool, true, false, List, Some, None, sym, ◌∙◌, arith}
use Rattle.std.specs.Prelude.{IsTrue, Result}
use Rattle.std.proofs.Math.Nat.{suc-mul}
use Rattle.std.specs.declared.result.Result.TheVariants.{Ok}
use Rattle.path_grammar.specs.Tree.{Comparable, Expr, exprs_of}
use Rattle.json_tape.specs.Nodes.{Node}
use Rattle.tape_values.specs.Comparison.{value_of}
use Rattle.decisions.specs.Laws.{TellsAsCompared}
use Rattle.decisions.specs.Tree.{Tested, expr_of, listed, uses, meets_root}
use Rattle.decisions.specs.Truth.{truth, IsRelated}
use Rattle.decisions.specs.declared.relation.Relation.{Relation}
use Rattle.node_lists.specs.Charge.{charge_expr, charge_exprs, charge_side}
use Rattle.node_lists.specs.Evaluation.{holds, some_hold, all_hold, result}
use Rattle.node_lists.specs.Paying.{Refuses, Finds}
use Rattle.node_lists.specs.declared.fault.SelectFault.{SelectFault}
use Rattle.node_lists.specs.declared.fault.SelectFault.TheVariants.{Costly, Memory}
use Rattle.query_plan.specs.Planned.{joined}
use Rattle.query_plan.specs.Laws.{MeansConditions}
use Rattle.tape_select.proofs.Decided.{holds_decided, unused}

pub refuses_from : (c1 left1 c2 left2 : ℕ) (e : SelectFault) → (left1 < c1 → left2 < c2) → Refuses c1 left1 e → Refuses c2 left2 e
refuses_from c1 left1 c2 left2 Costly f h = f h
refuses_from c1 left1 c2 left2 Memory f h = tt

module _ (means : MeansConditions) (law : TellsAsCompared) (root n : Node) (side : Comparable) (t : Tested) where
  pub free : (r : Relation) → (IsTrue (meets_root t) → IsRelated r (Some (value_of n.tree)) (Some (value_of root.tree))) → (old : ℕ) (found : Bool) → uses t ≡ 0 → found ≡ truth None r t → Finds {A = Bool} (Ok found) (holds root (expr_of side t) n) (charge_expr root (expr_of side t) n) old old
  free r h old found none e =
      let c = means.paid_decided root n side t in
      let z : uses t * charge_side root side n ≡ 0 = rw none (omega arith) in
      (e ∙ unused None (result root side n) r t none ∙ sym (holds_decided root n side law r t h), omega arith)

  once_more : (k c : ℕ) → 0 < k → (k - 1) * c + c ≡ k * c
  once_more zero c h = absurd (omega arith)
  once_more (suc k) c h = let e : suc k - 1 ≡ k = omega arith in rw e (sym (suc-mul k c))

  pub paid : (r : Relation) → (IsTrue (meets_root t) → IsRelated r (Some (value_of n.tree)) (Some (value_of root.tree))) → (old left new times once : ℕ) (found : Bool) → times ≡ uses t → 0 < times → left + charge_side root side n ≡ old → once + left ≡ old → new + (times - 1) * once ≡ left → found ≡ truth (result root side n) r t
      → Finds {A = Bool} (Ok found) (holds root (expr_of side t) n) (charge_expr root (expr_of side t) n) old new
  paid r h old left new times once found same some a b c e =
      let charge = means.paid_decided root n side t in
      let one : once ≡ charge_side root side n = omega arith in
      let all = once_more times once some in
      let whole : times * once ≡ charge_expr root (expr_of side t) n = rw (one, same) (sym charge) in
      (e ∙ sym (holds_decided root n side law r t h), omega arith)

  pub refused_first : (old times : ℕ) (f : SelectFault) → times ≡ uses t → 0 < times → Refuses (charge_side root side n) old f → Refuses (charge_expr root (expr_of side t) n) old f
  refused_first old times f same some h =
      let charge = means.paid_decided root n side t in
      let all = once_more times (charge_side root side n) some in
      let whole : times * charge_side root side n ≡ charge_expr root (expr_of side t) n = rw same (sym charge) in
      refuses_from (charge_side root side n) old (charge_expr root (expr_of side t) n) old f (λ l. omega arith) h

  pub refused_then : (old left times once : ℕ) (f : SelectFault) → times ≡ uses t → 0 < times → left + charge_side root side n ≡ old → once + left ≡ old → Refuses ((times - 1) * once) left f → Refuses (charge_expr root (expr_of side t) n) old f
  refused_then old left times once f same some a b h =
      let charge = means.paid_decided root n side t in
      let one : once ≡ charge_side root side n = omega arith in
      let all = once_more times once some in
      let whole : times * once ≡ charge_expr root (expr_of side t) n = rw (one, same) (sym charge) in
      refuses_from ((times - 1) * once) left (charge_expr root (expr_of side t) n) old f (λ l. omega arith) h

-- ---- In parts

module _ (means : MeansConditions) (root n : Node) where
  pub finds_some : (r : Result Bool SelectFault) (is_any : Bool) (ks : List ℕ) (es : List Expr) (old new : ℕ) → is_any ≡ true → Finds r (some_hold root (exprs_of es) n) (charge_exprs root (exprs_of es) n) old new
      → Finds r (holds root (listed is_any (joined is_any ks es)) n) (charge_expr root (listed is_any (joined is_any ks es)) n) old new
  finds_some r is_any ks es old new e h = rw (means.some root n is_any ks es e, means.paid_joined root n is_any ks es) h

  pub finds_all : (r : Result Bool SelectFault) (is_any : Bool) (ks : List ℕ) (es : List Expr) (old new : ℕ) → is_any ≡ false → Finds r (all_hold root (exprs_of es) n) (charge_exprs root (exprs_of es) n) old new
      → Finds r (holds root (listed is_any (joined is_any ks es)) n) (charge_expr root (listed is_any (joined is_any ks es)) n) old new
  finds_all r is_any ks es old new e h = rw (means.all root n is_any ks es e, means.paid_joined root n is_any ks es) h
