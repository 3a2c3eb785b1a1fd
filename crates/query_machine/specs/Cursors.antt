-- Where an evaluation stands in one segment, and what is ahead of it there (this project's own).
use Rattle.std.specs.Prelude.{◌≡◌, ℕ, zero, suc, ◌+◌, ◌-◌, ◌%◌, ◌^◌, ◌<◌, ◌≤◌, Bool, true, false, List, [], ◌∷◌, ◌++◌, length, reverse, flat_map, Option, Some, None, Result, MatchResult, if◌then◌else◌}
use Rattle.std.specs.Prelude.{filter as keep}
use Rattle.path_grammar.specs.Tree.{OneSegment, Selectors, no_selectors, selector, Selector, name, wild, index, filter, slice, Expr}
use Rattle.json_tape.specs.Nodes.{Node, elements}
use Rattle.json_tape.specs.Document.{Doc, count, node_at, following, single, IsIn}
use Rattle.json_text.specs.declared.tape.NodeId.{NodeId}
use Rattle.node_lists.specs.Evaluation.{selected, holds}
use Rattle.node_lists.specs.Charge.{total_of, charge_in, charge_expr}
use Rattle.node_lists.specs.Extra.{nodes_from, charge_at}
use Rattle.node_lists.specs.Nodelists.{nodes_of, nodes_between}
use Rattle.node_lists.specs.Paying.{Holds, Inside, Refuses}
use Rattle.node_lists.specs.declared.fault.SelectFault.{SelectFault}
use Rattle.query_plan.specs.Planned.{With, Claims, stage_view}
use Rattle.query_plan.specs.declared.plan.Stage.{Stage}
use Rattle.query_plan.specs.Slots.{AreClaimed}
use Rattle.tape_values.specs.Selection.{picked}
use Rattle.tape_values.specs.Places.{is_place}
use Rattle.query_machine.specs.declared.cursor.Cursor.{Cursor}
use Rattle.query_machine.specs.declared.cursor.Stride.{Stride}

-- ---- Selectors

-- the condition of a filter
abbrev pub condition_in : Selector → Option Expr
condition_in (name scalars) = None
condition_in wild = None
condition_in (index i) = None
condition_in (filter e) = Some e
condition_in (slice start stop step) = None

-- the selectors behind so many
abbrev pub behind : ℕ → Selectors → Selectors
behind zero ss = ss
behind (suc k) no_selectors = no_selectors
behind (suc k) (selector s others) = behind k others

abbrev pub first_condition : Selectors → Option Expr
first_condition no_selectors = None
first_condition (selector s others) = condition_in s

-- the condition of the selector with this number, where it is a filter
abbrev pub condition_at : ℕ → Selectors → Option Expr
condition_at k ss = first_condition (behind k ss)

-- no selector asks children
abbrev pub AreUnasked : Selectors → Type 0
AreUnasked no_selectors = Unit {0}
AreUnasked (selector s others) = (condition_in s ≡ None) × AreUnasked others

-- the selector with this number is a filter with this condition, whose slots are right
pub record IsAsked (table : Claims) (k : ℕ) (s : OneSegment) (c : With Expr) : Type 0 where
  pub condition : condition_at k s.selectors ≡ Some c.tree
  pub claimed : AreClaimed table c.claims

-- `$` is this node
module _ (root : Node) where
  -- which of the children that are left are selected: all, or those for which a condition holds; and what they are charged
  abbrev pub taken : Option Expr → List Node → List Node
  taken None ns = ns
  taken (Some e) ns = keep (holds root e) ns

  abbrev pub taking : Option Expr → List Node → ℕ
  taking None ns = length ns
  taking (Some e) ns = length ns + total_of (λ n. 1 + charge_expr root e n) ns

  -- what selectors select from these nodes, at the first of which so many are passed, and what that is charged
  abbrev pub visited : Selectors → ℕ → List Node → List Node
  visited ss k [] = []
  visited ss k (n ∷ ns) = selected root (behind k ss) n ++ flat_map (selected root ss) ns

  abbrev pub visits_due : Selectors → ℕ → List Node → ℕ
  visits_due ss k [] = 0
  visits_due ss k (n ∷ ns) = charge_in root (behind k ss) n + total_of (charge_in root ss) ns

-- ---- Places of a slice

-- the elements at the places that are left, the last first where it goes back
abbrev pub turned : (is_back : Bool) → List Node → List Node
turned false ns = ns
turned true ns = reverse ns

abbrev pub strided : Stride → List Node → List Node
strided w ns = turned w.is_back (picked (is_place w.first w.end w.step) 0 ns)

-- the next place, and the places behind it
abbrev pub place_of : Stride → ℕ
place_of w = if w.is_back then w.end - 1 else w.first

abbrev pub rest_of : Stride → Stride
rest_of w = record { first = if w.is_back then w.first else w.first + w.step; end = if w.is_back then w.end - w.step else w.end; step = w.step; is_back = w.is_back }

-- the last place is one of them
abbrev pub IsAligned : Bool → (first end step : ℕ) → Type 0
IsAligned false first end step = Unit {0}
IsAligned true first end step = first < end → (end - 1 - first) % step ≡ 0

pub record IsStride (w : Stride) : Type 0 where
  pub end : w.end ≤ 2 ^ 32
  pub some : 0 < w.step
  pub step : w.step ≤ 2 ^ 63
  pub aligned : IsAligned w.is_back w.first w.end w.step

-- ---- A cursor

module _ (d : Doc) (s : OneSegment) where
  abbrev pub ahead : Cursor → List Node
  ahead c =
      taken (node_at d 0) (condition_at c.asked s.selectors) (following d c.child)
      ++ (strided c.stride (elements (node_at d c.visit)) ++ visited (node_at d 0) s.selectors c.passed (nodes_between d c.visit c.end))

  abbrev pub due : Cursor → ℕ
  due c =
      taking (node_at d 0) (condition_at c.asked s.selectors) (following d c.child)
      + (length (strided c.stride (elements (node_at d c.visit))) + visits_due (node_at d 0) s.selectors c.passed (nodes_between d c.visit c.end))

-- the cursor is of one of so many segments, and within the document
pub record IsCursor (d : Doc) (total : ℕ) (c : Cursor) : Type 0 where
  pub stage : c.stage < total
  pub visit : c.stride.first < c.stride.end → c.visit < count d
  pub end : c.end ≤ count d
  pub child : IsIn d c.child
  pub stride : IsStride c.stride

-- what a step costs at most: a unit, or where a filter asks a child 2 and what its condition is charged
module _ (root : Node) where
  abbrev pub price_of : Option Expr → List Node → ℕ
  price_of c [] = 1
  price_of None (n ∷ ns) = 1
  price_of (Some e) (n ∷ ns) = 2 + charge_expr root e n

abbrev pub price : Doc → OneSegment → Cursor → ℕ
price d s c = price_of (node_at d 0) (condition_at c.asked s.selectors) (following d c.child)

-- a node, or none, is taken off what is ahead, and its charge paid
pub record Draws (d : Doc) (s : OneSegment) (found : Option NodeId) (before after : Cursor) (old new : ℕ) : Type 0 where
  pub same : single d found ++ ahead d s after ≡ ahead d s before
  pub paid : new + due d s before ≡ old + due d s after
  pub inside : IsIn d found
  pub stage : after.stage ≡ before.stage
  pub visit : after.stride.first < after.stride.end → after.visit < count d
  pub end : after.end ≤ count d
  pub child : IsIn d after.child
  pub stride : IsStride after.stride
  pub little : old ≤ new + price d s before

abbrev pub DrawsOr : Doc → OneSegment → Result (Option NodeId) SelectFault → (before after : Cursor) → (old new : ℕ) → Type 0
DrawsOr d s r before after old new = MatchResult r (λ found. Draws d s found before after old new) (λ e. Refuses (due d s before) old e)

-- these nodes are taken off what is ahead in some steps, and their charge is paid
pub record Runs (d : Doc) (s : OneSegment) (ns : List Node) (before after : Cursor) (old new : ℕ) : Type 0 where
  pub same : ns ++ ahead d s after ≡ ahead d s before
  pub paid : new + due d s before ≡ old + due d s after
  pub stage : after.stage ≡ before.stage
  pub visit : after.stride.first < after.stride.end → after.visit < count d
  pub end : after.end ≤ count d
  pub child : IsIn d after.child
  pub stride : IsStride after.stride

abbrev pub RunsOr : Doc → OneSegment → Result (Option NodeId) SelectFault → (before after : Cursor) → (old new : ℕ) → Type 0
RunsOr d s r before after old new = MatchResult r (λ found. Runs d s (single d found) before after old new × IsIn d found) (λ e. Refuses (due d s before) old e)

-- a step of the segment costs so many units
abbrev pub IsStepOf : Doc → OneSegment → (old new : ℕ) → Type 0
IsStepOf d s old new = (c : Cursor) × (old ≤ new + price d s c)

-- nothing is drawn where a child waits
abbrev pub drawn : {A : Type 0} → Option (Option A) → Option A
drawn None = None
drawn (Some found) = found

-- ---- Nodes that are passed, and all at once

module _ (d : Doc) (s : Stage) (k : ℕ) where
  -- the segment selects nothing from the node with this number, for a unit of each selector
  pub record IsPassed : Type 0 where
    pub nothing : selected (node_at d 0) (stage_view s).tree.selectors (node_at d k) ≡ []
    pub charge : charge_in (node_at d 0) (stage_view s).tree.selectors (node_at d k) ≡ length s.selections.items

  -- or one node
  pub record GivesNode (found : NodeId) : Type 0 where
    pub node : selected (node_at d 0) (stage_view s).tree.selectors (node_at d k) ≡ single d (Some found)
    pub charge : charge_in (node_at d 0) (stage_view s).tree.selectors (node_at d k) ≡ length s.selections.items

-- all that the segment selects from a node is out, or nothing is
abbrev pub Takes : Doc → OneSegment → Node → (taken : Bool) → (out new : List NodeId) → (old left : ℕ) → Type 0
Takes d s n true out new old left = Holds d new (nodes_of d out ++ nodes_from (node_at d 0) s n) × (left + charge_at (node_at d 0) s n ≡ old)
Takes d s n false out new old left = (new ≡ out) × (left ≡ old)

-- a part of what is ahead is out, and its charge is paid
pub record Drains (d : Doc) (s : OneSegment) (before after : Cursor) (out new : List NodeId) (old left : ℕ) : Type 0 where
  pub same : nodes_of d new ++ ahead d s after ≡ nodes_of d out ++ ahead d s before
  pub paid : left + due d s before ≡ old + due d s after
  pub sound : Inside d new
  pub stage : after.stage ≡ before.stage
  pub visit : after.stride.first < after.stride.end → after.visit < count d
  pub end : after.end ≤ count d
  pub child : IsIn d after.child
  pub stride : IsStride after.stride

abbrev pub DrainsOr : Doc → OneSegment → (drained : Bool) → (before after : Cursor) → (out new : List NodeId) → (old left : ℕ) → Type 0
DrainsOr d s true before after out new old left = Drains d s before after out new old left
DrainsOr d s false before after out new old left = (after ≡ before) × ((new ≡ out) × (left ≡ old))
