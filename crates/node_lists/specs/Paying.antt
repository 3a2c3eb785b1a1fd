-- What a step of an evaluation answers, and what it takes from the meter.
use Rattle.std.specs.Prelude.{◌≡◌, ℕ, ◌+◌, ◌<◌, List, Option, Result, MatchResult}
use Rattle.std.specs.List.{All}
use Rattle.std.specs.declared.vec.Vec.{Vec}
use Rattle.std.specs.declared.alloc.Global.{Global}
use Rattle.json_tape.specs.Nodes.{Node}
use Rattle.json_tape.specs.Document.{Doc, count, single, IsIn}
use Rattle.json_text.specs.declared.tape.NodeId.{NodeId}
use Rattle.node_lists.specs.Nodelists.{nodes_of}
use Rattle.node_lists.specs.declared.fault.SelectFault.{SelectFault}
use Rattle.node_lists.specs.declared.fault.SelectFault.TheVariants.{Costly, Memory}

-- numbers of nodes
abbrev pub Inside : Doc → List NodeId → Type 0
Inside d ids = All (λ id. id.0 < count d) ids

-- the fault is want of memory, or the units do not suffice
abbrev pub Refuses : (charge units : ℕ) → SelectFault → Type 0
Refuses charge units Costly = units < charge
Refuses charge units Memory = Unit {0}

-- The charge is taken off the units; or they do not suffice. Nothing is subtracted: what is left and the charge are what there was.
abbrev pub Pays : {A : Type 0} → Result A SelectFault → (charge old new : ℕ) → Type 0
Pays r charge old new = MatchResult r (λ _. new + charge ≡ old) (λ e. Refuses charge old e)

-- the list holds these nodes, numbered
pub record Holds (d : Doc) (ids : List NodeId) (nodes : List Node) : Type 0 where
  pub same : nodes_of d ids ≡ nodes
  pub inside : Inside d ids

-- the nodes are added and the charge is paid
abbrev pub Adds : {A : Type 0} → Doc → Result A SelectFault → (ids : List NodeId) → (nodes : List Node) → (charge old new : ℕ) → Type 0
Adds d r ids nodes charge old new = MatchResult r (λ _. Holds d ids nodes × (new + charge ≡ old)) (λ e. Refuses charge old e)

-- the nodes are found and the charge is paid
abbrev pub FindsList : Doc → Result (Vec NodeId Global) SelectFault → List Node → (charge old new : ℕ) → Type 0
FindsList d r nodes charge old new = MatchResult r (λ v. Holds d v.items nodes × (new + charge ≡ old)) (λ e. Refuses charge old e)

-- the value is found and the charge is paid
abbrev pub Finds : {A : Type 0} → Result A SelectFault → A → (charge old new : ℕ) → Type 0
Finds r a charge old new = MatchResult r (λ found. (found ≡ a) × (new + charge ≡ old)) (λ e. Refuses charge old e)

-- the one node, or none, is found and the charge is paid
abbrev pub FindsOne : Doc → Result (Option NodeId) SelectFault → List Node → (charge old new : ℕ) → Type 0
FindsOne d r nodes charge old new = MatchResult r (λ found. (single d found ≡ nodes) × IsIn d found × (new + charge ≡ old)) (λ e. Refuses charge old e)
