-- Laws that the definitions have to meet.
use Rattle.std.specs.Prelude.{◌≡◌, ◌+◌, ◌*◌, ℕ, List, [], ◌∷◌, Some, Bool, true, false}
use Rattle.json_text.specs.Nodes.{Node}
use Rattle.path_grammar.specs.Tree.{Comparable, Expr, exprs_of}
use Rattle.path_meaning.specs.Charge.{charge_expr, charge_exprs, charge_from, charge_side}
use Rattle.path_meaning.specs.Evaluation.{all_hold, evaluated, holds, some_hold}
use Rattle.path_meaning.specs.Links.{links_view}
use Rattle.path_meaning.specs.declared.links.Link.{Link}
use Rattle.decisions.specs.Tree.{Tested, expr_of, listed, uses}
use Rattle.query_plan.specs.Planned.{Claims, joined, numbered, path_of, query_of}
use Rattle.query_plan.specs.Slots.{AreClaimed}
use Rattle.query_plan.specs.declared.plan.Stage.{Stage}

-- A decided condition is charged its side as often as it is written. Operands in parts hold and are charged as they do in a row.
pub record MeansConditions : Type 0 where
  pub paid_decided : (root n : Node) (side : Comparable) (t : Tested) → charge_expr root (expr_of side t) n ≡ uses t * charge_side root side n
  pub paid_joined : (root n : Node) (is_any : Bool) (places : List ℕ) (es : List Expr) → charge_expr root (listed is_any (joined is_any places es)) n ≡ charge_exprs root (exprs_of es) n
  pub some : (root n : Node) (is_any : Bool) (places : List ℕ) (es : List Expr) → is_any ≡ true → holds root (listed is_any (joined is_any places es)) n ≡ some_hold root (exprs_of es) n
  pub all : (root n : Node) (is_any : Bool) (places : List ℕ) (es : List Expr) → is_any ≡ false → holds root (listed is_any (joined is_any places es)) n ≡ all_hold root (exprs_of es) n

-- A query is evaluated and charged as its names and indexes are, and then the segments behind them.
pub record FollowsLinks : Type 0 where
  pub found : (root : Node) (ss : List Stage) (ls : List Link) (ns : List Node) → evaluated root (path_of ls ss) ns ≡ evaluated root (query_of ss) (evaluated root (links_view ls) ns)
  pub paid : (root : Node) (ss : List Stage) (ls : List Link) (from : Node) (first : List Node) → first ≡ evaluated root (links_view ls) (from ∷ [])
      → charge_from root (path_of ls ss) (from ∷ []) ≡ charge_from root (links_view ls) (from ∷ []) + charge_from root (query_of ss) first

-- slots that are numbered in order are found under their numbers
abbrev pub FindsSlots : Type 0
FindsSlots = (c : Claims) (total : ℕ) → numbered c 0 ≡ Some total → AreClaimed c c
