-- Which query a condition awaits for a child, and how much of its charge comes before it.
use Rattle.std.specs.Prelude.{ℕ, ◌+◌, ◌≤◌, Option, Some, None, IsSome}
use denote.Ref.{Bor}
use Rattle.json_tape.specs.Nodes.{Node}
use Rattle.json_tape.specs.Document.{Doc, node_at}
use Rattle.node_lists.specs.Charge.{charge_nested}
use Rattle.query_plan.specs.Planned.{Claims, nested_view}
use Rattle.query_plan.specs.Slots.{AreClaimed}
use Rattle.query_plan.specs.declared.plan.Nested.{Nested, out-Nested}

-- a charge has so much in front, and then the charge of a query that has a slot
pub record Awaits (d : Doc) (table : Claims) (n : Node) (q : Nested) (paid charge : ℕ) : Type 0 where
  pub within : paid + charge_nested (node_at d 0) (nested_view q).tree n ≤ charge
  pub slot : IsSome (out-Nested q).slot
  pub claimed : AreClaimed table (nested_view q).claims

-- a query is awaited, or none is and so much is paid
abbrev pub AwaitsSome : Doc → Claims → Node → Option (Bor Nested) → (paid charge : ℕ) → Type 0
AwaitsSome d table n None paid charge = paid ≤ charge
AwaitsSome d table n (Some q) paid charge = Awaits d table n q.now paid charge
