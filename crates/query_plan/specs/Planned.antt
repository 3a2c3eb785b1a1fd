-- The query that a plan stands for, and which of its queries have which slots: each level once, with what is inside already seen.
use Rattle.std.specs.Prelude.{ℕ, zero, suc, ◌+◌, List, [], ◌∷◌, ◌++◌, map, Bool, true, false, Option, Some, None, nat_eq, if◌then◌else◌, codes}
use Rattle.path_grammar.specs.Tree as tree
use Rattle.path_grammar.specs.Tree.{OneSegment, Segments, segments_of, selectors_of, exprs_of}
use Rattle.decisions.specs.Tree.{expr_of, listed}
use Rattle.decisions.specs.Views.{constant_view, test_view}
use Rattle.decisions.specs.Decided.{is_told_on}
use Rattle.decisions.specs.declared.scale.Scale.{Scale}
use Rattle.path_meaning.specs.Links.{link_selector, link_view}
use Rattle.query_plan.specs.declared.plan.Condition.TheOpen.{Condition-F, Operand-F, Selection-F, Nested-F, Stage-F}
use Rattle.query_plan.specs.declared.plan.Condition.{Condition, fold-Condition}
use Rattle.query_plan.specs.declared.plan.Operand.{Operand, fold-Operand}
use Rattle.query_plan.specs.declared.plan.Selection.{Selection, fold-Selection}
use Rattle.query_plan.specs.declared.plan.Nested.{Nested, fold-Nested}
use Rattle.query_plan.specs.declared.plan.Stage.{Stage, fold-Stage}
use Rattle.path_meaning.specs.declared.links.Link.{Link}

-- ---- Slots

-- what has a slot: a query, in two parts, and a condition whose truths are kept
pub data Claimed : Type 0 where
  a_query : (from_root : Bool) (before behind : List OneSegment) → Claimed
  a_condition : (scale : Scale) (condition : tree.Expr) → Claimed

-- which slots these have, and which conditions are told on their scales; a tree, so that the facts of two parts are a pair
pub data Claims : Type 0 where
  no_claims : Claims
  claim : (slot : ℕ) (owner : Claimed) → Claims
  told : (scale : Scale) (condition : tree.Expr) → Claims
  both : (first others : Claims) → Claims

-- a part of the syntax tree, and the slots in it
pub record With (A : Type 0) : Type 0 where
  pub tree : A
  pub claims : Claims

abbrev pub tree_in : {A : Type 0} → With A → A
tree_in part = part.tree

abbrev pub all_claims : {A : Type 0} → List (With A) → Claims
all_claims [] = no_claims
all_claims (x ∷ xs) = both x.claims (all_claims xs)

-- a query without a slot begins at the child
abbrev pub is_rooted : Option ℕ → (from_root : Bool) → Bool
is_rooted None from_root = false
is_rooted (Some k) from_root = from_root

abbrev pub own_claim : Option ℕ → (from_root : Bool) (before behind : List OneSegment) → Claims
own_claim None from_root before behind = no_claims
own_claim (Some k) from_root before behind = claim k (a_query from_root before behind)

-- ---- Lists of operands in parts

-- the operands that an expression has as such a list, or itself alone
abbrev pub operands_of : (is_any : Bool) → tree.Expr → tree.Exprs
operands_of true (tree.any es) = es
operands_of false (tree.any es) = tree.expr (tree.any es) tree.no_exprs
operands_of true (tree.each es) = tree.expr (tree.each es) tree.no_exprs
operands_of false (tree.each es) = es
operands_of is_any (tree.not e) = tree.expr (tree.not e) tree.no_exprs
operands_of is_any (tree.compare a op b) = tree.expr (tree.compare a op b) tree.no_exprs
operands_of is_any (tree.test q) = tree.expr (tree.test q) tree.no_exprs
operands_of is_any (tree.test_call c) = tree.expr (tree.test_call c) tree.no_exprs

abbrev pub append_exprs : tree.Exprs → tree.Exprs → tree.Exprs
append_exprs tree.no_exprs others = others
append_exprs (tree.expr e es) others = tree.expr e (append_exprs es others)

abbrev pub appended : List tree.Exprs → tree.Exprs
appended [] = tree.no_exprs
appended (xs ∷ xss) = append_exprs xs (appended xss)

-- the first operand of the list at this place, and all lists without it
abbrev pub first_of : ℕ → List tree.Exprs → Option tree.Expr
first_of zero [] = None
first_of zero (tree.no_exprs ∷ xss) = None
first_of zero (tree.expr e es ∷ xss) = Some e
first_of (suc k) [] = None
first_of (suc k) (xs ∷ xss) = first_of k xss

abbrev pub behind_of : ℕ → List tree.Exprs → List tree.Exprs
behind_of zero [] = []
behind_of zero (tree.no_exprs ∷ xss) = tree.no_exprs ∷ xss
behind_of zero (tree.expr e es ∷ xss) = es ∷ xss
behind_of (suc k) [] = []
behind_of (suc k) (xs ∷ xss) = xs ∷ behind_of k xss

abbrev pub put_first : Option tree.Expr → tree.Exprs → tree.Exprs
put_first None es = es
put_first (Some e) es = tree.expr e es

-- the operands of all lists: in turn the next of the list at each of these places, and then those that are left
abbrev pub woven : (places : List ℕ) → List tree.Exprs → tree.Exprs
woven [] xss = appended xss
woven (k ∷ ks) xss = put_first (first_of k xss) (woven ks (behind_of k xss))

-- the operands of all parts
abbrev pub joined : (is_any : Bool) (places : List ℕ) → List tree.Expr → tree.Exprs
joined is_any ks es = woven ks (map (operands_of is_any) es)

-- ---- The levels

-- a side of a comparison as an argument
abbrev pub as_argument : tree.Comparable → tree.Argument
as_argument (tree.lit l) = tree.lit_argument l
as_argument (tree.single q) = tree.nodes_argument q
as_argument (tree.func c) = tree.func_argument c

-- a call with one argument
abbrev pub calling : (function : List ℕ) → tree.Argument → tree.Comparable
calling f a = tree.func (tree.call f (tree.argument a tree.no_arguments))

module _ where
  abbrev pub Layer : ((A B C D E : Type 0) → Type 0) → Type 0
  Layer X = X (With tree.Expr) (With tree.Comparable) (With tree.Selector) (With tree.Nested) (With OneSegment)

  abbrev pub condition_step : Layer Condition-F → With tree.Expr
  condition_step (Condition-F.Any v) = record { tree = tree.any (exprs_of (map tree_in v.items)); claims = all_claims v.items }
  condition_step (Condition-F.Each v) = record { tree = tree.each (exprs_of (map tree_in v.items)); claims = all_claims v.items }
  condition_step (Condition-F.Not b) = record { tree = tree.not b.value.tree; claims = b.value.claims }
  condition_step (Condition-F.Compare a op b) = record { tree = tree.compare a.tree op b.tree; claims = both a.claims b.claims }
  condition_step (Condition-F.Exists q) = record { tree = tree.test q.tree; claims = q.claims }
  condition_step (Condition-F.Decided a b) = record { tree = expr_of a.tree (test_view b.value); claims = a.claims }
  condition_step (Condition-F.Remembered slot s b) = record { tree = b.value.tree; claims = both b.value.claims (both (told s b.value.tree) (claim slot (a_condition s b.value.tree))) }
  condition_step (Condition-F.Joined is_any ks v) = record { tree = listed is_any (joined is_any ks.items (map tree_in v.items)); claims = all_claims v.items }

  abbrev pub operand_step : Layer Operand-F → With tree.Comparable
  operand_step (Operand-F.Constant l) = record { tree = tree.lit (constant_view l); claims = no_claims }
  operand_step (Operand-F.Single q) = record { tree = tree.single q.tree; claims = q.claims }
  operand_step (Operand-F.Length b) = record { tree = calling (codes "length") (as_argument b.value.tree); claims = b.value.claims }
  operand_step (Operand-F.Count q) = record { tree = calling (codes "count") (tree.nodes_argument q.tree); claims = q.claims }
  operand_step (Operand-F.Value q) = record { tree = calling (codes "value") (tree.nodes_argument q.tree); claims = q.claims }

  abbrev pub selection_step : Layer Selection-F → With tree.Selector
  selection_step (Selection-F.One l) = record { tree = link_selector l; claims = no_claims }
  selection_step Selection-F.Wild = record { tree = tree.wild; claims = no_claims }
  selection_step (Selection-F.Sliced start stop step) = record { tree = tree.slice start stop step; claims = no_claims }
  selection_step (Selection-F.Where b) = record { tree = tree.filter b.value.tree; claims = b.value.claims }

  abbrev pub nested_step : Layer Nested-F → With tree.Nested
  nested_step q = record {
    tree = tree.nested (is_rooted q.slot q.from_root) (segments_of (map link_view q.links.items ++ map tree_in q.stages.items));
    claims = both (own_claim q.slot q.from_root (map link_view q.links.items) (map tree_in q.stages.items)) (all_claims q.stages.items);
  }

  abbrev pub stage_step : Layer Stage-F → With OneSegment
  stage_step s = record { tree = record { descend = s.descend; selectors = selectors_of (map tree_in s.selections.items) }; claims = all_claims s.selections.items }

abbrev pub condition_view : Condition → With tree.Expr
condition_view = fold-Condition (With tree.Expr) (With tree.Comparable) (With tree.Selector) (With tree.Nested) (With OneSegment) condition_step operand_step selection_step nested_step stage_step

abbrev pub operand_view : Operand → With tree.Comparable
operand_view = fold-Operand (With tree.Expr) (With tree.Comparable) (With tree.Selector) (With tree.Nested) (With OneSegment) condition_step operand_step selection_step nested_step stage_step

abbrev pub selection_view : Selection → With tree.Selector
selection_view = fold-Selection (With tree.Expr) (With tree.Comparable) (With tree.Selector) (With tree.Nested) (With OneSegment) condition_step operand_step selection_step nested_step stage_step

abbrev pub nested_view : Nested → With tree.Nested
nested_view = fold-Nested (With tree.Expr) (With tree.Comparable) (With tree.Selector) (With tree.Nested) (With OneSegment) condition_step operand_step selection_step nested_step stage_step

abbrev pub stage_view : Stage → With OneSegment
stage_view = fold-Stage (With tree.Expr) (With tree.Comparable) (With tree.Selector) (With tree.Nested) (With OneSegment) condition_step operand_step selection_step nested_step stage_step

-- ---- Lists of parts

abbrev pub trees : {A : Type 0} → List (With A) → List A
trees parts = map tree_in parts

-- the query of these stages
abbrev pub query_of : List Stage → Segments
query_of ss = segments_of (trees (map stage_view ss))

-- the query of these links, and the stages behind them
abbrev pub path_of : List Link → List Stage → Segments
path_of ls ss = segments_of (map link_view ls ++ trees (map stage_view ss))

abbrev pub claims_of : List Stage → Claims
claims_of ss = all_claims (map stage_view ss)

-- ---- What has a slot

abbrev pub or_else : Option Claimed → Option Claimed → Option Claimed
or_else None b = b
or_else (Some a) b = Some a

-- what claims a slot first
abbrev pub look : Claims → ℕ → Option Claimed
look no_claims k = None
look (claim slot c) k = if nat_eq slot k then Some c else None
look (told s e) k = None
look (both a b) k = or_else (look a k) (look b k)

abbrev pub then_numbered : Option ℕ → (ℕ → Option ℕ) → Option ℕ
then_numbered None f = None
then_numbered (Some k) f = f k

-- the number after the last slot, where the slots have the numbers from this one on, in the order of the plan, and all conditions are told that should be
abbrev pub numbered : Claims → ℕ → Option ℕ
numbered no_claims k = Some k
numbered (claim slot c) k = if nat_eq slot k then Some (k + 1) else None
numbered (told s e) k = if is_told_on s e then Some k else None
numbered (both a b) k = then_numbered (numbered a k) (λ j. numbered b j)
