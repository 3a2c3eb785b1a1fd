-- What a condition awaits: its queries in turn.
use Rattle.std.proofs.Common.{◌≡◌, Bor, ℕ, zero, suc, ◌+◌, ◌*◌, ◌<◌, ◌≤◌, Bool, false, List, map, length, drop, get_or, Option, Some, None, is_some, sym, ap, ◌∙◌, arith}
use Rattle.std.proofs.Math.Nat.{suc-mul}
use Rattle.path_grammar.specs.Tree as tree
use Rattle.path_grammar.specs.Tree.{Expr, exprs_of}
use Rattle.json_tape.specs.Nodes.{Node}
use Rattle.json_tape.specs.Document.{Doc}
use Rattle.decisions.specs.Tree.{Tested, expr_of, listed, uses}
use Rattle.node_lists.specs.Charge.{charge_expr, charge_exprs, charge_side, charge_nested}
use Rattle.query_plan.specs.Planned.{Claims, trees, all_claims, calling, condition_view, joined}
use Rattle.query_plan.specs.Slots.{AreClaimed}
use Rattle.query_plan.specs.declared.plan.Condition.{Condition}
use Rattle.query_plan.specs.declared.plan.Nested.{Nested}
use Rattle.tape_select.specs.Awaiting.{AwaitsSome}
use Rattle.query_plan.specs.Laws.{MeansConditions}
use Rattle.tape_select.proofs.Parts.{operand_claims, operand_charges, argued_charge}

module _ (d : Doc) (table : Claims) (n : Node) where
  -- behind what is paid already
  pub awaits_behind : (y : Option (Bor Nested)) (p q r a c : ℕ) → p + a ≤ c → r ≤ p + q → AwaitsSome d table n y q a → AwaitsSome d table n y r c
  awaits_behind None p q r a c h s w = omega (arith, h, s, w)
  awaits_behind (Some x) p q r a c h s w = let k = w.within in record { within = omega (arith, h, s, k); slot = w.slot; claimed = w.claimed }

  -- nothing is awaited of what is in front
  pub awaits_none : (y : Option (Bor Nested)) (q a : ℕ) → is_some y ≡ false → AwaitsSome d table n y q a → q ≤ a
  awaits_none None q a e w = w
  awaits_none (Some x) q a e w = absurd cc

-- a side that is written is a part of the charge
pub side_within : (means : MeansConditions) (root n : Node) (side : tree.Comparable) (t : Tested) (times : ℕ) → times ≡ uses t → 0 < times → charge_side root side n ≤ charge_expr root (expr_of side t) n
side_within means root n side t zero e l = absurd (omega arith)
side_within means root n side t (suc k) e l =
    let c = means.paid_decided root n side t in
    let m : suc k * charge_side root side n ≡ k * charge_side root side n + charge_side root side n = suc-mul k (charge_side root side n) in
    rw (c, ← e) (omega (arith, m))

pub counted : (root n : Node) (f : List ℕ) (q : tree.Nested) → charge_side root (calling f (tree.nodes_argument q)) n ≡ charge_nested root q n
counted root n f q = omega arith

-- ---- The operand at the index

pub operand_claimed : (t : Claims) (es : List Condition) (i : ℕ) (item : Condition) → i < length es → item ≡ get_or es i item → AreClaimed t (all_claims (map condition_view (drop i es)))
    → AreClaimed t (condition_view item).claims × AreClaimed t (all_claims (map condition_view (drop (i + 1) es)))
operand_claimed t es i item lt e h = rw (← e) at (rw (operand_claims es i item lt) at h)

pub operand_charged : (root n : Node) (es : List Condition) (i : ℕ) (item : Condition) → i < length es → item ≡ get_or es i item
    → charge_exprs root (exprs_of (trees (map condition_view (drop i es)))) n ≡ charge_expr root (condition_view item).tree n + charge_exprs root (exprs_of (trees (map condition_view (drop (i + 1) es)))) n
operand_charged root n es i item lt e =
    operand_charges root n es i item lt
    ∙ ap (λ (x : Condition). charge_expr root (condition_view x).tree n + charge_exprs root (exprs_of (trees (map condition_view (drop (i + 1) es)))) n) (sym e)

pub ruleset operands = (operand_claims)

pub charge_joined : (means : MeansConditions) (root n : Node) (is_any : Bool) (places : List ℕ) (es : List Expr) → charge_expr root (listed is_any (joined is_any places es)) n ≡ charge_exprs root (exprs_of es) n
charge_joined means root n is_any places es = means.paid_joined root n is_any places es

pub ruleset parts = (charge_joined)

pub ruleset arguments = (argued_charge, counted)
