-- What a loop over one core does, a step at a time: this project's own.
use Rattle.std.specs.Prelude.{◌≡◌, ◌≢◌, ◌⊎◌, ℕ, ◌+◌, ◌-◌, ◌^◌, max, min, List, [], ◌∷◌, Option, Some, None, Bool}
use Rattle.std.specs.Bool.{MatchBool}
use Rattle.outbox.specs.Lines.{Line, fresh}
use Rattle.outbox.specs.Traffic.{Traffic, HasMoved, IsUnused, IsReadOn}
use Rattle.connection_turns.specs.Cores.{CoreSteps}
use Rattle.connection_turns.specs.Turning.{TakesTurn}
use Rattle.connection_turns.specs.declared.claim.Claim.{Claim}
use Rattle.open_connections.specs.Joined.{Joined}
use Rattle.open_connections.specs.Shares.{limits_in}
use Rattle.open_connections.specs.declared.budgets.Budgets.{Budgets}

-- whether a connection is to have a turn, and how much is left of the work that it has under way
pub record Task : Type 0 where
  pub is_due : Bool
  pub left : Option ℕ

-- One that is to have a turn is to have it still, and its work stays. The work of another one stays, or is given up.
abbrev pub KeepsTask : (old new : Task) → Type 0
KeepsTask old new = MatchBool old.is_due (new ≡ old) ((new.left ≡ old.left) ⊎ (new.left ≡ None))

-- what is seen of the core, what each connection that is served is owed, the bytes that moved on the streams of those that are open, as far as they are shown, what each claims of the budgets of memory, those budgets, how many bytes were read and written, and the work under way
pub record Lanes (C : Type 0) : Type 0 where
  pub core : C
  pub lines : ℕ → Option Line
  pub wires : ℕ → Option Traffic
  pub claims : ℕ → Option Claim
  pub budgets : Budgets
  pub bytes : ℕ × ℕ
  pub tasks : ℕ → Task

-- so many bytes more: the number stops at the greatest of 64 bits
abbrev pub counted : (count more : ℕ) → ℕ
counted count more = max count (min (count + more) (2 ^ 64 - 1))

-- the bytes that moved on a stream are counted, as far as it shows them
pub record CountsMoved (old new : Option Traffic) (bytes bytes' : ℕ × ℕ) : Type 0 where
  pub read : ℕ
  pub written : ℕ
  pub moved : HasMoved old new read written
  pub read_is : bytes'.0 ≡ counted bytes.0 read
  pub written_is : bytes'.1 ≡ counted bytes.1 written

-- a connection is taken in, one has a turn, one is served no further, what still comes on one that is not served is thrown away
pub data Step : Type 0 where
  TakenIn : (conn : ℕ) → Step
  HasTurn : (conn : ℕ) → Step
  LetGo : (conn : ℕ) → Step
  Drained : (conn : ℕ) → Step

-- Nothing changes for other connections, and no limit does. Claims and shares that belong together still do.
pub record OthersStay {C : Type 0} (conn : ℕ) (old new : Lanes C) : Type 0 where
  pub lines_stay : (q : ℕ) → q ≢ conn → new.lines q ≡ old.lines q
  pub wires_stay : (q : ℕ) → q ≢ conn → new.wires q ≡ old.wires q
  pub tasks_stay : (q : ℕ) → q ≢ conn → KeepsTask (old.tasks q) (new.tasks q)
  pub limits_stay : limits_in new.budgets ≡ limits_in old.budgets
  pub joined : Joined old.claims old.budgets → Joined new.claims new.budgets

-- a connection is taken in that was not open, and nothing moved on its stream
pub record TakesIn {C : Type 0} (s : CoreSteps C) (conn : ℕ) (old new : Lanes s.Seen) : Type 0 where
  pub opens : s.opens conn old.core new.core
  pub was_free : old.lines conn ≡ None
  pub is_fresh : new.lines conn ≡ Some fresh
  pub is_unused : IsUnused (new.wires conn)
  pub others : OthersStay conn old new
  pub bytes_stay : new.bytes ≡ old.bytes

-- one that is served has a turn: the bytes of its events are those that moved on its own stream, and those are counted
pub record TurnAt {C : Type 0} (s : CoreSteps C) (conn : ℕ) (old new : Lanes s.Seen) : Type 0 where
  pub line : Line
  pub line' : Line
  pub was : old.lines conn ≡ Some line
  pub is : new.lines conn ≡ Some line'
  pub takes_turn : TakesTurn (s.takes conn) (s.answers conn) line (old.wires conn) old.core line' (new.wires conn) new.core
  pub counts : CountsMoved (old.wires conn) (new.wires conn) old.bytes new.bytes
  pub others : OthersStay conn old new

-- one is served no further, and closed, or open without a byte more
pub record LetsGo {C : Type 0} (s : CoreSteps C) (conn : ℕ) (old new : Lanes s.Seen) : Type 0 where
  pub closes : s.closes conn old.core new.core
  pub is_gone : new.lines conn ≡ None
  pub wire_stays : (new.wires conn ≡ None) ⊎ (new.wires conn ≡ old.wires conn)
  pub others : OthersStay conn old new
  pub bytes_stay : new.bytes ≡ old.bytes

-- on one that is served no further a piece is read and thrown away, and nothing is written
pub record Drains {C : Type 0} (conn : ℕ) (old new : Lanes C) : Type 0 where
  pub core_stays : new.core ≡ old.core
  pub was_gone : old.lines conn ≡ None
  pub is_gone : new.lines conn ≡ None
  pub reads_on : IsReadOn (old.wires conn) (new.wires conn)
  pub others : OthersStay conn old new
  pub bytes_stay : new.bytes ≡ old.bytes

abbrev pub Does : {C : Type 0} → (s : CoreSteps C) → Step → Lanes s.Seen → Lanes s.Seen → Type 0
Does s (TakenIn conn) old new = TakesIn s conn old new
Does s (HasTurn conn) old new = TurnAt s conn old new
Does s (LetGo conn) old new = LetsGo s conn old new
Does s (Drained conn) old new = Drains conn old new

-- Nothing of that changes but claims and shares, and those that belong together still do. No limit changes.
pub record Stays {C : Type 0} (old new : Lanes C) : Type 0 where
  pub core_stays : new.core ≡ old.core
  pub lines_stay : (q : ℕ) → new.lines q ≡ old.lines q
  pub wires_stay : (q : ℕ) → new.wires q ≡ old.wires q
  pub tasks_stay : (q : ℕ) → KeepsTask (old.tasks q) (new.tasks q)
  pub limits_stay : limits_in new.budgets ≡ limits_in old.budgets
  pub joined : Joined old.claims old.budgets → Joined new.claims new.budgets
  pub bytes_stay : new.bytes ≡ old.bytes

-- nothing is done in the turn of one, which may be due no more
pub record PassedBy {C : Type 0} (conn : ℕ) (old new : Lanes C) : Type 0 where
  pub core_stays : new.core ≡ old.core
  pub line_stays : new.lines conn ≡ old.lines conn
  pub wire_stays : new.wires conn ≡ old.wires conn
  pub others : OthersStay conn old new
  pub bytes_stay : new.bytes ≡ old.bytes

abbrev pub DoesEach : {C : Type 0} → (s : CoreSteps C) → List Step → Lanes s.Seen → Lanes s.Seen → Type 0
DoesEach s [] old new = Stays old new
DoesEach {C} s (step ∷ steps) old new = (mid : Lanes s.Seen) × Does s step old mid × DoesEach s steps mid new

-- some steps; this step, or none; a turn, in which nothing may be done, or what is done in the place of one
abbrev pub DoesSome : {C : Type 0} → (s : CoreSteps C) → Lanes s.Seen → Lanes s.Seen → Type 0
DoesSome s old new = (steps : List Step) × DoesEach s steps old new

-- none of the steps takes a connection in
abbrev pub TakesNone : List Step → Type 0
TakesNone [] = Unit {0}
TakesNone (TakenIn conn ∷ steps) = ⊥
TakesNone (HasTurn conn ∷ steps) = TakesNone steps
TakesNone (LetGo conn ∷ steps) = TakesNone steps
TakesNone (Drained conn ∷ steps) = TakesNone steps

-- some steps of which none takes a connection in
abbrev pub DoesOn : {C : Type 0} → (s : CoreSteps C) → Lanes s.Seen → Lanes s.Seen → Type 0
DoesOn s old new = (steps : List Step) × TakesNone steps × DoesEach s steps old new

-- what is served was served before
abbrev pub ServesNoNew : {C : Type 0} → Lanes C → Lanes C → Type 0
ServesNoNew old new = (q : ℕ) → old.lines q ≡ None → new.lines q ≡ None

abbrev pub DoesAtMost : {C : Type 0} → (s : CoreSteps C) → Step → Lanes s.Seen → Lanes s.Seen → Type 0
DoesAtMost s step old new = Does s step old new ⊎ Stays old new

abbrev pub TurnsAtMost : {C : Type 0} → (s : CoreSteps C) → ℕ → Lanes s.Seen → Lanes s.Seen → Type 0
TurnsAtMost s conn old new = Does s (HasTurn conn) old new ⊎ Does s (Drained conn) old new
