-- The lists that a server shows hold what its connections do.
use Rattle.std.proofs.Common.{◌≡◌, ℕ, Option, None, Some, false, sym, ap, ◌∙◌, refl, subst, inl, inr}
use Rattle.std.specs.Prelude.{IfSome, slice_index_or}
use Rattle.std.specs.Option.{option_and_then, option_map, option_map_or}
use Rattle.std.proofs.Math.ListN.{get_or-map}
use Rattle.slab.specs.Slab.{Slab, get}
use Rattle.outbox.specs.Traffic.{Traffic}
use Rattle.connection_turns.specs.declared.claim.Claim.{Claim}
use Rattle.connection_turns.specs.declared.connection.Connection.{Connection}
use Rattle.connection_turns.specs.Cores.{CoreSteps}
use Rattle.connection_turns.specs.Owed.{line_of, wire_of}
use Rattle.open_connections.specs.declared.budgets.Budgets.{Budgets}
use Rattle.open_connections.specs.declared.open.Open.{Open}
use Rattle.open_connections.specs.Joined.{HasShare, Joined, place_of}
use Rattle.open_connections.specs.Looping.{Lanes, Stays, Task}
use Rattle.open_connections.specs.Opened.{bytes_of, claimed, lanes_of, lines_in, listed, shown, task_in, wires_in}
use Rattle.open_connections.specs.Shares.{claim_at}
use Rattle.event_loop.proofs.Looping.{keeps_same}
use Rattle.event_loop.specs.Seats.{Seat, seat_of, seats_of}

pub listed_at : {S : Type 0} (slab : Slab (Connection S)) (q : ℕ) → slice_index_or (listed slab) q None ≡ lines_in slab q
listed_at {S} slab q = get_or-map (λ (slot : Option (Connection S)). option_and_then (λ c. line_of c) slot) slab.slots q None

shown_at : {S : Type 0} (told : S → Option Traffic) (slab : Slab (Connection S)) (q : ℕ) → slice_index_or (shown told slab) q None ≡ wires_in told slab q
shown_at {S} told slab q = get_or-map (λ (slot : Option (Connection S)). option_and_then (λ c. wire_of told c) slot) slab.slots q None

claimed_at : {S : Type 0} (slab : Slab (Connection S)) (q : ℕ) → slice_index_or (claimed slab) q None ≡ claim_at slab q
claimed_at {S} slab q = get_or-map (λ (slot : Option (Connection S)). option_and_then (λ c. c.claim) slot) slab.slots q None

same_joined : (claims claims' : ℕ → Option Claim) (budgets : Budgets) → ((q : ℕ) → claims' q ≡ claims q) → Joined claims budgets → Joined claims' budgets
same_joined claims claims' budgets h j = record {
  has = λ q. subst (λ (x : Option Claim). IfSome x (λ claim. HasShare q claim budgets)) (sym (h q)) (j.has q);
  owned = λ p. elim (j.owned p) [ inl e ↦ inl e | inr f ↦ inr (f.0, ap (λ (x : Option Claim). option_map place_of x) (h f.0) ∙ f.1) ];
  most = j.most;
}

abbrev listed_tasks : {S C T : Type 0} → CoreSteps C → Open S C T → ℕ → Task
listed_tasks s o q = record { is_due = option_map_or (λ seat. seat.is_due) (slice_index_or (seats_of o.connections) q None) false; left = s.left q o.core }

task_at : {S C T : Type 0} (s : CoreSteps C) (o : Open S C T) (q : ℕ) → listed_tasks s o q ≡ task_in s o.core o.connections q
task_at {S} s o q = λ i. record { is_due = (ap (λ (seat : Option Seat). option_map_or (λ seat. seat.is_due) seat false) (get_or-map (λ (slot : Option (Connection S)). option_map seat_of slot) o.connections.slots q None) ∙ seat_due (get o.connections q)) i; left = s.left q o.core }
  where
    seat_due : (slot : Option (Connection S)) → option_map_or (λ seat. seat.is_due) (option_map seat_of slot) false ≡ option_map_or (λ c. c.is_due) slot false
    seat_due None = refl
    seat_due (Some c) = refl

abbrev listed_lanes : {S C T : Type 0} → (s : CoreSteps C) → (S → Option Traffic) → Open S C T → Lanes s.Seen
listed_lanes s told o = record { core = s.seen o.core; lines = λ q. slice_index_or (listed o.connections) q None; wires = λ q. slice_index_or (shown told o.connections) q None; claims = λ q. slice_index_or (claimed o.connections) q None; budgets = o.budgets; bytes = bytes_of o; tasks = listed_tasks s o }

pub from_lists : {S C T : Type 0} (s : CoreSteps C) (told : S → Option Traffic) (o : Open S C T) → Stays (listed_lanes s told o) (lanes_of s told o)
from_lists s told o = record { core_stays = refl; lines_stay = λ q. sym (listed_at o.connections q); wires_stay = λ q. sym (shown_at told o.connections q); tasks_stay = λ q. keeps_same _ _ (sym (task_at s o q)); limits_stay = refl; joined = same_joined _ _ o.budgets (λ q. sym (claimed_at o.connections q)); bytes_stay = refl }

pub to_lists : {S C T : Type 0} (s : CoreSteps C) (told : S → Option Traffic) (o : Open S C T) → Stays (lanes_of s told o) (listed_lanes s told o)
to_lists s told o = record { core_stays = refl; lines_stay = λ q. listed_at o.connections q; wires_stay = λ q. shown_at told o.connections q; tasks_stay = λ q. keeps_same _ _ (task_at s o q); limits_stay = refl; joined = same_joined _ _ o.budgets (λ q. claimed_at o.connections q); bytes_stay = refl }
