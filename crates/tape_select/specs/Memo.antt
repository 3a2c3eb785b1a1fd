-- What was found for queries in filters is right, and so are the truths that are kept.
use Rattle.std.specs.Prelude.{◌≡◌, ℕ, suc, ◌+◌, Bool, List, [], ◌∷◌, ◌++◌, length, Option, Some, None, Result, MatchResult}
use Rattle.std.specs.declared.alloc.Global.{Global}
use Rattle.std.specs.declared.vec.Vec.{Vec}
use Rattle.path_grammar.specs.Tree.{Segments, Nested, nested, segments_of}
use Rattle.json_tape.specs.Nodes.{Node}
use Rattle.json_tape.specs.Document.{Doc, node_at, IsIn}
use Rattle.tape_values.specs.Comparison.{Value}
use Rattle.compared_sides.specs.Values.{value_found}
use Rattle.tape_values.specs.Functions.{only_value}
use Rattle.decisions.specs.Decided.{IsCell}
use Rattle.node_lists.specs.Evaluation.{evaluated, holds, start}
use Rattle.node_lists.specs.Charge.{charge_from}
use Rattle.query_plan.specs.Planned.{Claimed, a_query, a_condition, Claims, look}
use Rattle.tape_select.specs.declared.state.Found.{Found}
use Rattle.tape_select.specs.declared.state.Kept.{Kept}
use Rattle.tape_select.specs.declared.state.State.{State}
use Rattle.compared_sides.specs.Answered.{AreRight}
use Rattle.compared_sides.specs.Counted.{AreCounted}
use Rattle.tape_values.specs.Sides.{side_value, IsSide}
use Rattle.tape_values.specs.declared.sides.Side.{Side}
use Rattle.node_lists.specs.declared.fault.SelectFault.{SelectFault}
use Rattle.node_lists.specs.Paying.{Refuses}

-- what is asked of the nodelist of the query from this node, and its charge
pub record IsFound (d : Doc) (from : Node) (q : Segments) (f : Found) : Type 0 where
  pub value : only_value (evaluated (node_at d 0) q (from ∷ [])) ≡ value_found d f.only
  pub inside : IsIn d f.only
  pub total : f.total ≡ length (evaluated (node_at d 0) q (from ∷ []))
  pub charge : f.charge ≡ charge_from (node_at d 0) q (from ∷ [])

-- where some query has the slot, this is found for it from the node
abbrev pub IsFoundAt : Doc → Option Claimed → Node → Found → Type 0
IsFoundAt d None n f = Unit {0}
IsFoundAt d (Some (a_query from_root before behind)) n f = IsFound d n (segments_of (before ++ behind)) f
IsFoundAt d (Some (a_condition s e)) n f = Unit {0}

-- what is kept was found from the node that is kept with it
abbrev pub IsKept : Doc → Option Claimed → Option Kept → Type 0
IsKept d c None = Unit {0}
IsKept d c (Some k) = IsFoundAt d c (node_at d k.from.0) k.found

-- each slot that is filled is right
abbrev pub RightFrom : Doc → Claims → ℕ → List (Option Kept) → Type 0
RightFrom d table k [] = Unit {0}
RightFrom d table k (s ∷ ss) = IsKept d (look table k) s × RightFrom d table (suc k) ss

abbrev pub Right : Doc → Claims → List (Option Kept) → Type 0
Right d table slots = RightFrom d table 0 slots

-- this is found, and its charge is paid
abbrev pub FindsNodes : Doc → Result Found SelectFault → Segments → Node → (old new : ℕ) → Type 0
FindsNodes d r q from old new = MatchResult r (λ f. IsFound d from q f × (new + charge_from (node_at d 0) q (from ∷ []) ≡ old)) (λ e. Refuses (charge_from (node_at d 0) q (from ∷ [])) old e)

-- what a query in a filter finds at a child
abbrev pub FindsFor : Doc → Result Found SelectFault → Nested → Node → (old new : ℕ) → Type 0
FindsFor d r (nested from_root q) n old new = FindsNodes d r q (start (node_at d 0) from_root n) old new

-- the side is found, and its charge is paid
abbrev pub FindsSide : Doc → Result Side SelectFault → Option Value → (charge old new : ℕ) → Type 0
FindsSide d r value charge old new = MatchResult r (λ side. (side_value d side ≡ value) × IsSide d side × (new + charge ≡ old)) (λ e. Refuses charge old e)

-- ---- Truths of conditions

-- where some condition has the slot, it has this truth at each node of the cell with this number
abbrev pub IsTruth : Doc → Option Claimed → ℕ → Bool → Type 0
IsTruth d None i held = Unit {0}
IsTruth d (Some (a_query from_root before behind)) i held = Unit {0}
IsTruth d (Some (a_condition s e)) i held = (n : Node) → IsCell (node_at d 0) n s i → holds (node_at d 0) e n ≡ held

abbrev pub IsTruthKept : Doc → Option Claimed → ℕ → Option Bool → Type 0
IsTruthKept d c i None = Unit {0}
IsTruthKept d c i (Some held) = IsTruth d c i held

-- each of a list, with its number from this one on
abbrev pub EachFrom : {X : Type 0} → (ℕ → X → Type 0) → ℕ → List X → Type 0
EachFrom P k [] = Unit {0}
EachFrom P k (x ∷ xs) = P k x × EachFrom P (suc k) xs

abbrev pub AreTruths : Doc → Option Claimed → List (Option Bool) → Type 0
AreTruths d c xs = EachFrom (IsTruthKept d c) 0 xs

-- a row for each slot
abbrev pub IsRow : Doc → Claims → ℕ → Vec (Option Bool) Global → Type 0
IsRow d table slot row = AreTruths d (look table slot) row.items

abbrev pub AreRows : Doc → Claims → List (Vec (Option Bool) Global) → Type 0
AreRows d table rows = EachFrom (IsRow d table) 0 rows

-- what is kept is right
abbrev pub Keeps : Doc → Claims → State → Type 0
Keeps d table s = Right d table s.slots.items × AreRight d s.answers.items × AreCounted d s.lengths.kept.items × AreRows d table s.truths.items
