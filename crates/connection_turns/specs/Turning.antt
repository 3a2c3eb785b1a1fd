-- What a turn of the loop does to a connection, whatever the others do: this project's own.
use Rattle.std.specs.Prelude.{◌≡◌, ◌⊎◌, ℕ, ◌+◌, ◌<◌, ◌≤◌, List, length, Option, Bool, true, false}
use Rattle.outbox.specs.Appends.{KeepsWork}
use Rattle.outbox.specs.Lines.{Line, Event, cap, run, read, sent}
use Rattle.outbox.specs.Traffic.{Traffic, moved, with_read}
use Rattle.outbox.specs.Turns.{Advances, IsTold, DoesAll, HasFallen, HasNotRisen, Moment, count_of, here, moves, settles_at}
use Rattle.outbox.specs.declared.readiness.Readiness.{Readiness}
use Rattle.connection_turns.specs.Cores.{CoreSteps}
use Rattle.connection_turns.specs.Owed.{wire_of}
use Rattle.connection_turns.specs.declared.connection.Connection.{Connection}
use Rattle.connection_turns.specs.declared.connection.TurnPlan.{TurnPlan}
use Rattle.connection_turns.specs.declared.connection.TurnPlan.TheVariants.{Write, Read, Answer, All}
use Rattle.connection_turns.specs.declared.connection.Outcome.{Outcome}
use Rattle.connection_turns.specs.declared.connection.Outcome.TheVariants as outcome

-- these events happened: to its output, on its wire, and to the core
pub record TakesTurn {C : Type 0} (takes answers : C → List ℕ → C → Type 0) (line : Line) (wire : Option Traffic) (core : C) (line' : Line) (wire' : Option Traffic) (core' : C) : Type 0 where
  pub events : List Event
  pub line_is : line' ≡ run line events
  pub wire_is : wire' ≡ moved (read line events) (sent line events) wire
  pub core_is : DoesAll takes answers line events core core'

-- what a turn changes of a connection, the core, and what it has under way for it
abbrev pub moment_of : {S C : Type 0} → (S → Option Traffic) → C → Option ℕ → Connection S → Moment C
moment_of told core left c = here c.outbox (wire_of told c) core left c.ready

-- one that a read would wait at
abbrev pub dried : {S : Type 0} → Connection S → Connection S
dried c = record c { ready = record { readable = false; writable = c.ready.writable; waiting = c.ready.waiting } }

-- These events happened. If the turn could do something, the same events move bytes or answer a request, or what might have been done wants a wait. If they
-- move nothing, nothing may be done now that might not be before. Where no request is said to wait, none does, if so before. What is under way stays or falls, unless a reply was given or
-- the line ended.
pub record Progresses {C : Type 0} (takes answers : C → List ℕ → C → Type 0) (idle : C → Type 0) (can : Bool) (old new : Moment C) : Type 0 where
  pub turn : TakesTurn takes answers old.line old.wire old.core new.line new.wire new.core
  pub goes_on : can ≡ true → (moves old.line turn.events ≡ true) ⊎ HasFallen old.ready new.ready
  pub rises : moves old.line turn.events ≡ false → HasNotRisen old.ready new.ready
  pub told : IsTold idle old → IsTold idle new
  pub works : count_of settles_at turn.events ≡ 0 → KeepsWork old.left new.left

-- by this plan a turn answers
abbrev pub is_answering : TurnPlan → Bool
is_answering Write = false
is_answering Read = false
is_answering Answer = true
is_answering All = true

-- a request of the connection came nearer to its reply
abbrev pub AdvancesAt : {S C : Type 0} → CoreSteps C → (S → Option Traffic) → (conn : ℕ) → (old new : C) → Connection S → Connection S → Type 0
AdvancesAt s told conn old new c c' = Advances (s.takes conn) (s.answers conn) (moment_of told (s.seen old) (s.left conn old) c) (moment_of told (s.seen new) (s.left conn new) c')

-- What a turn adds to the bytes that are owed: nothing, or at most one reply. If it may give several, they end within one reply above the cap.
abbrev pub Adds : {C : Type 0} → TurnPlan → (C → List ℕ → C → Type 0) → C → (owed owed' : ℕ) → Type 0
Adds Write answers core owed owed' = owed' ≤ owed
Adds Read answers core owed owed' = owed' ≤ owed
Adds {C} Answer answers core owed owed' = (owed' ≤ owed) ⊎ ((reply : List ℕ) × (new : C) × answers core reply new × (owed' ≤ owed + length reply))
Adds {C} All answers core owed owed' = (owed' ≤ owed) ⊎ ((old : C) × (reply : List ℕ) × (new : C) × answers old reply new × (owed' ≤ cap + length reply))

-- bytes came and are thrown away, or a read would wait, or the connection is to be closed
abbrev pub DrainsOn : (old new : Option Traffic) → Readiness → Outcome → Type 0
DrainsOn old new ready result = ((piece : List ℕ) × (0 < length piece) × (new ≡ with_read piece old)) ⊎ ((ready.readable ≡ false) ⊎ (result ≡ outcome.Closed))
