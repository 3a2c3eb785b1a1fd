-- Who gets a turn, as the value of a server shows it: this project's own.
use Rattle.std.specs.Prelude.{ℕ, ◌&&◌, ◌++◌, ◌^◌, List, map, nat_lt, Option, None, IfSome, Bool, false, IsTrue, IsFalse, slice_index_or}
use Rattle.std.specs.Option.{option_map}
use Rattle.slab.specs.Slab.{Slab}
use Rattle.outbox.specs.declared.readiness.Readiness.{Readiness}
use Rattle.connection_turns.specs.declared.connection.Connection.{Connection}
use Rattle.connection_turns.specs.Planning.{can_go_on}
use Rattle.due_list.specs.declared.due.Due.{Due}
use Rattle.open_connections.specs.declared.open.Open.{Open}
use Rattle.open_connections.specs.Woken.{stands_in}

-- of a connection that is open: its number, whether it is due, whether a turn of it would do something, and what may be done at it without a wait
pub record Seat : Type 0 where
  pub number : ℕ
  pub is_due : Bool
  pub goes_on : Bool
  pub ready : Readiness

abbrev pub seat_of : {S : Type 0} → Connection S → Seat
seat_of c = record { number = c.number; is_due = c.is_due; goes_on = can_go_on false c; ready = c.ready }

-- those of all, in a list by key
abbrev pub seats_of : {S : Type 0} → Slab (Connection S) → List (Option Seat)
seats_of slab = map (λ slot. option_map seat_of slot) slab.slots

-- the turns of the next round, in order
abbrev pub turns_of : {S C T : Type 0} → Open S C T → List Due
turns_of o = o.due.first.items ++ o.due.rest.items

-- One that is due has its turn in the next round. A turn of any other would do nothing, unless memory was refused for the list: then all with a key below the bound are looked at before the
-- next round.
pub record IsSeated (bound : ℕ) (has_missed : Bool) (turns : List Due) (key : ℕ) (seat : Seat) : Type 0 where
  pub within : IsTrue (nat_lt key bound && nat_lt key (2 ^ 32))
  pub listed : IsTrue seat.is_due → IsTrue (stands_in key seat.number turns)
  pub awake : IsFalse seat.is_due → IsFalse has_missed → IsFalse seat.goes_on

abbrev pub AreSeated : (bound : ℕ) (has_missed : Bool) → List Due → List (Option Seat) → Type 0
AreSeated bound has_missed turns seats = (key : ℕ) → IfSome (slice_index_or seats key None) (λ seat. IsSeated bound has_missed turns key seat)
