-- What becomes of each of those that get a turn in a round: this project's own.
use Rattle.std.specs.Prelude.{◌≡◌, ◌⊎◌, ℕ, List, [], ◌∷◌, Bool, Option, IfSome, IsFalse, IsTrue}
use Rattle.std.specs.Bool.{MatchBool}
use Rattle.slab.specs.Slab.{get}
use Rattle.outbox.specs.Traffic.{Traffic}
use Rattle.connection_turns.specs.Owed.{is_lost}
use Rattle.connection_turns.specs.declared.connection.Outcome.{Outcome}
use Rattle.connection_turns.specs.declared.connection.Outcome.TheVariants as outcome
use Rattle.connection_turns.specs.declared.ending.End.TheVariants as end
use Rattle.due_list.specs.declared.due.Due.{Due}
use Rattle.open_connections.specs.declared.open.Open.{Open}
use Rattle.connection_turns.specs.Cores.{CoreSteps}
use Rattle.open_connections.specs.Looping.{Does, DoesSome, LetGo, Stays}
use Rattle.open_connections.specs.Opened.{IsPutOff, has_time, is_due_in, is_there, lanes_of, lost_at}
use Rattle.due_list.specs.Rounds.{IsFresh}
use Rattle.open_connections.specs.Turns.{GetsTurn, IsLeft, OthersStand, StatesStay}
use Rattle.open_connections.specs.Woken.{TurnsStay}
use Rattle.event_loop.specs.Seats.{turns_of}

-- What follows from a turn. One that is over is let go. One that is open stays as the turn left it, or is let go if memory is refused. If it is to have a further turn, the core has under
-- way what it had.
abbrev pub Follows : {S C T : Type 0} → CoreSteps C → (S → Option Traffic) → (key : ℕ) → Outcome → Open S C T → Open S C T → Type 0
Follows s told key outcome.Open old new = Does s (LetGo key) (lanes_of s told old) (lanes_of s told new) ⊎ (Stays (lanes_of s told old) (lanes_of s told new) × StatesStay old new × (IsTrue (is_due_in new.connections key) → new.core ≡ old.core))
Follows s told key (outcome.Over how) old new = Does s (LetGo key) (lanes_of s told old) (lanes_of s told new)
Follows s told key outcome.Closed old new = Does s (LetGo key) (lanes_of s told old) (lanes_of s told new)

-- The connection with this key has its turn. If its peer is gone, nothing is done.
pub record GetsTurnAt {S C T : Type 0} (s : CoreSteps C) (told : S → Option Traffic) (waits : ℕ → C → Bool) (key : ℕ) (result : Outcome) (old new : Open S C T) : Type 0 where
  pub gets : IfSome (get old.connections key) (λ c. IsFalse (is_lost c) → GetsTurn s told waits key c result old new)
  pub lost : IsTrue (lost_at key old) → (result ≡ outcome.Over end.ReadFault) × IsLeft s told key old new

-- It has its turn, and then what follows from that. All others stay what they are.
pub record TakesTurnAt {S C T : Type 0} (s : CoreSteps C) (told : S → Option Traffic) (waits : ℕ → C → Bool) (key : ℕ) (old new : Open S C T) : Type 0 where
  pub turned : Open S C T
  pub result : Outcome
  pub turn : GetsTurnAt s told waits key result old turned
  pub follows : Follows s told key result turned new
  pub others : OthersStand key old new

-- one is put off
pub record PutsOff {S C T : Type 0} (s : CoreSteps C) (told : S → Option Traffic) (due : Due) (old new : Open S C T) : Type 0 where
  pub lanes : Stays (lanes_of s told old) (lanes_of s told new)
  pub ready : StatesStay old new
  pub first : IsPutOff due old new

-- One for whose tenant no time is left is put off. Any other has its turn, if it is open still.
abbrev pub ServesOne : {S C T : Type 0} → CoreSteps C → (S → Option Traffic) → (waits longs : ℕ → C → Bool) → Due → Open S C T → Open S C T → Type 0
ServesOne s told waits longs due old new = MatchBool (has_time longs due old) (MatchBool (is_there due old) (TakesTurnAt s told waits due.key old new) (new ≡ old)) (PutsOff s told due old new)

-- each of a list, one after the other, and nothing more
abbrev pub ServesEach : {S C T : Type 0} → CoreSteps C → (S → Option Traffic) → (waits longs : ℕ → C → Bool) → List Due → Open S C T → Open S C T → Type 0
ServesEach s told waits longs [] old new = Stays (lanes_of s told old) (lanes_of s told new) × StatesStay old new × TurnsStay old new × (new.due.first.items ≡ old.due.first.items)
ServesEach {S} {C} {T} s told waits longs (due ∷ dues) old new = (mid : Open S C T) × ServesOne s told waits longs due old mid × TurnsStay old mid × ServesEach s told waits longs dues mid new

-- All that were to have a turn are served, in order: those in front first. None is listed for the next round yet when that begins, and no time was taken.
pub record TakesTurns {S C T : Type 0} (s : CoreSteps C) (told : S → Option Traffic) (waits longs : ℕ → C → Bool) (old new : Open S C T) : Type 0 where
  pub start : Open S C T
  pub begins : Stays (lanes_of s told old) (lanes_of s told start)
  pub same : start.connections ≡ old.connections
  pub fresh : IsFresh start.due
  pub serves : ServesEach s told waits longs (turns_of old) start new

-- A round: what was to have a turn is to have it still when the turns begin, and then they are given.
pub record GoesRound {S C T : Type 0} (s : CoreSteps C) (told : S → Option Traffic) (waits longs : ℕ → C → Bool) (old new : Open S C T) : Type 0 where
  pub begun : Open S C T
  pub comes : DoesSome s (lanes_of s told old) (lanes_of s told begun)
  pub stand : TurnsStay old begun
  pub turns : TakesTurns s told waits longs begun new
