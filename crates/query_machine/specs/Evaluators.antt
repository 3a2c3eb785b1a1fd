-- A query that is evaluated in shares, on one document after the other (this project's own).
use Rattle.std.specs.Prelude.{◌≡◌, ℕ, ◌+◌, ◌-◌, ◌<◌, ◌≤◌, List, [], ◌∷◌, Option, Some, None}
use Rattle.path_grammar.specs.Tree.{Segments}
use Rattle.json_tape.specs.Nodes.{Node}
use Rattle.json_tape.specs.Document.{Doc, IsDocument, node_at}
use Rattle.node_lists.specs.Charge.{charge_from}
use Rattle.node_lists.specs.Evaluation.{evaluated}
use Rattle.node_lists.specs.Paying.{Holds}
use Rattle.query_plan.specs.Planned.{query_of, claims_of, numbered}
use Rattle.query_plan.specs.declared.plan.Parts.{Parts}
use Rattle.tape_select.specs.declared.selecting.Selected.{Selected}
use Rattle.query_machine.specs.Levels.{left_in, IsOneStep, IsOnWay}
use Rattle.query_machine.specs.declared.levels.Machine.{Machine}
use Rattle.query_machine.specs.declared.evaluator.Evaluator.{Evaluator}

-- the query of an evaluator
abbrev pub query_in : Evaluator → Segments
query_in c = query_of c.parts.stages.items

-- what the query of a plan selects
abbrev pub selected_from : Doc → Parts → List Node
selected_from d plan = evaluated (node_at d 0) (query_of plan.stages.items) (node_at d 0 ∷ [])

abbrev pub charged_on : Doc → Parts → ℕ
charged_on d plan = charge_from (node_at d 0) (query_of plan.stages.items) (node_at d 0 ∷ [])

-- no evaluation is under way, or this one on this document, which began with so many units
abbrev pub IsWithin : Doc → Parts → ℕ → Option Machine → Type 0
IsWithin d plan units None = Unit {0}
IsWithin d plan units (Some m) = IsOnWay d plan units (selected_from d plan) m × (left_in m ≤ units)

-- none is under way, or this one on a document with this text
abbrev pub IsWithinText : List ℕ → Parts → ℕ → Option Machine → Type 0
IsWithinText text plan units None = Unit {0}
IsWithinText text plan units (Some m) = (d : Doc) × IsDocument d × (d.text ≡ text) × IsOnWay d plan units (selected_from d plan) m × (left_in m ≤ units)

-- the evaluator is at rest, or under way on a document with this text, which it began with so many units
pub record IsEvaluating (text : List ℕ) (units : ℕ) (c : Evaluator) : Type 0 where
  pub numbered : numbered (claims_of c.parts.stages.items) 0 ≡ Some c.parts.slots
  pub within : IsWithinText text c.parts units c.evaluation

-- the evaluator is at rest
pub record IsAtRest (c : Evaluator) : Type 0 where
  pub numbered : numbered (claims_of c.parts.stages.items) 0 ≡ Some c.parts.slots
  pub rest : c.evaluation ≡ None

-- the units that are left of an evaluation, or all
abbrev pub left_on : ℕ → Option Machine → ℕ
left_on units None = units
left_on units (Some m) = left_in m

-- the evaluation came to its end, and these are its nodes and its charge
pub record Ends (d : Doc) (plan : Parts) (units : ℕ) (s : Selected) (next : Option Machine) : Type 0 where
  pub nodes : Holds d s.nodes.items (selected_from d plan)
  pub charge : s.charge ≡ charged_on d plan
  pub within : s.charge ≤ units
  pub rest : next ≡ None

-- it came to its end, or it goes on and has spent more than the share
abbrev pub Yields : Doc → Parts → (units share : ℕ) → Option Selected → (before next : Option Machine) → Type 0
Yields d plan units share None before next = IsWithin d plan units next × (left_on units next + share < left_on units before)
Yields d plan units share (Some s) before next = Ends d plan units s next

-- the units that are left then
abbrev pub left_then : ℕ → Option Selected → Option Machine → ℕ
left_then units None next = left_on units next
left_then units (Some s) next = units - s.charge

-- a share and one step are all that is spent
abbrev pub SpendsShare : Doc → Parts → (units share : ℕ) → Option Selected → (before next : Option Machine) → Type 0
SpendsShare d plan units share some before next = IsOneStep d plan (left_on units before) (left_then units some next + share)
