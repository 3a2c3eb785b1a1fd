-- A server of many connections, as its clauses see it: this project's own.
use Rattle.std.specs.Prelude.{◌≡◌, ◌⊎◌, ◌^◌, ◌-◌, ℕ, Bool, IsFalse, IsTrue, List, [], ◌∷◌, length, Option, None, IfSome, slice_index_or, false}
use Rattle.std.specs.Option.{option_map_or}
use Rattle.outbox.specs.Lines.{Line}
use Rattle.outbox.specs.Traffic.{Traffic}
use Rattle.connection_turns.specs.declared.claim.Claim.{Claim}
use Rattle.connection_turns.specs.declared.limits.Limits.{Limits}
use Rattle.open_connections.specs.declared.budgets.Budgets.{Budgets}
use Rattle.open_connections.specs.declared.open.Open.{Open}
use Rattle.connection_turns.specs.Cores.{CoreSteps}
use Rattle.open_connections.specs.Looping.{Lanes, ServesNoNew}
use Rattle.open_connections.specs.Opened.{claimed, connected_in, listed, shown}
use Rattle.open_connections.specs.Joined.{Joined}
use Rattle.due_list.specs.declared.due.Due.{Due}
use Rattle.event_loop.specs.declared.fault.LoopFault.{LoopFault}
use Rattle.event_loop.specs.declared.fault.LoopFault.TheVariants.{Memory, Net}
use Rattle.event_loop.specs.Seats.{AreSeated, Seat, seats_of, turns_of}
use Rattle.event_loop.specs.Turns.{GoesRound}

-- whether it takes in connections, the seconds of grace once a drain was asked for, how many are open and were taken in, the bytes read and written, its limits, the budgets of memory, the core that answers, and by key what each connection that is served is owed, what the stream of each that is open shows, and what it claims of the budgets; of those that are open who is due and what may be done without a wait, the turns of the next round, below which bound
-- all keys are, whether memory was refused for that list, and whether the system's last wait failed, if that shows it
pub record Serving (C : Type 0) : Type 0 where
  pub listens : Bool
  pub grace : Option ℕ
  pub connected : ℕ
  pub taken : ℕ
  pub read : ℕ
  pub written : ℕ
  pub limits : Limits
  pub budgets : Budgets
  pub core : C
  pub lines : List (Option Line)
  pub wires : List (Option Traffic)
  pub claims : List (Option Claim)
  pub seats : List (Option Seat)
  pub turns : List Due
  pub bound : ℕ
  pub has_missed : Bool
  pub failed : Option Bool

-- as the steps of the loop see it
abbrev pub lanes_in : {C : Type 0} → (s : CoreSteps C) → Serving C → Lanes s.Seen
lanes_in s server = record { core = s.seen server.core; lines = λ q. slice_index_or server.lines q None; wires = λ q. slice_index_or server.wires q None; claims = λ q. slice_index_or server.claims q None; budgets = server.budgets; bytes = (server.read, server.written); tasks = λ q. record { is_due = option_map_or (λ seat. seat.is_due) (slice_index_or server.seats q None) false; left = s.left q server.core } }

-- A server that takes in no connection takes in none from then on: what it serves was served before.
pub record StaysDeaf {C : Type 0} (s : CoreSteps C) (old new : Serving C) : Type 0 where
  pub deaf : IsFalse new.listens
  pub none_new : ServesNoNew (lanes_in s old) (lanes_in s new)

-- no connection is forgotten: each that can go on has its turn in the next round
abbrev pub NobodyIsForgotten : {C : Type 0} → Serving C → Type 0
NobodyIsForgotten server = AreSeated server.bound server.has_missed server.turns server.seats

-- each claim of a connection that is open has its share of the budgets, and each share is claimed
abbrev pub AreJoined : {C : Type 0} → Serving C → Type 0
AreJoined server = Joined (λ q. slice_index_or server.claims q None) server.budgets

-- these are the connections of a server: it shows them
abbrev pub Shows : {S C T : Type 0} → (S → Option Traffic) → Open S C T → Serving C → Type 0
Shows told o server = server ≡ record server { connected = connected_in o; read = o.read; written = o.written; budgets = o.budgets; core = o.core; lines = listed o.connections; wires = shown told o.connections; claims = claimed o.connections; seats = seats_of o.connections; turns = turns_of o; bound = o.bound; has_missed = o.has_missed }

-- Each connection that was to have a turn has it in this round if it is open still, or is put off: from what a server shows before the round to what it shows behind it.
abbrev pub GivesTurns : (S T : Type 0) {C : Type 0} → CoreSteps C → (S → Option Traffic) → (waits longs : ℕ → C → Bool) → (old new : Serving C) → Type 0
GivesTurns S T {C} s told waits longs old new = (was : Open S C T) × (is : Open S C T) × Shows told was old × Shows told is new × GoesRound s told waits longs was is

-- a round that ends well: it gives its turns, and forgets nobody
pub record IsRound (S T : Type 0) {C : Type 0} (s : CoreSteps C) (told : S → Option Traffic) (waits longs : ℕ → C → Bool) (old new : Serving C) : Type 0 where
  pub turns : GivesTurns S T s told waits longs old new
  pub woken : NobodyIsForgotten old → NobodyIsForgotten new

-- such rounds, one after the other, and nothing between them: a list of what the server shows behind each
abbrev pub GoesRounds : (S T : Type 0) {C : Type 0} → CoreSteps C → (S → Option Traffic) → (waits longs : ℕ → C → Bool) → List (Serving C) → (old new : Serving C) → Type 0
GoesRounds S T s told waits longs [] old new = new ≡ old
GoesRounds S T s told waits longs (next ∷ rounds) old new = IsRound S T s told waits longs old next × GoesRounds S T s told waits longs rounds next new

-- some rounds, or none
abbrev pub GoesSomeRounds : (S T : Type 0) {C : Type 0} → CoreSteps C → (S → Option Traffic) → (waits longs : ℕ → C → Bool) → (old new : Serving C) → Type 0
GoesSomeRounds S T {C} s told waits longs old new = (rounds : List (Serving C)) × GoesRounds S T s told waits longs rounds old new

-- Why a round fails: of a fault of the network, that the system's last wait failed. Memory may be refused at any time.
abbrev pub ComesOfWaiting : LoopFault → (failed : Option Bool) → Type 0
ComesOfWaiting (Net reason) failed = IfSome failed IsTrue
ComesOfWaiting Memory failed = Unit {0}

-- so many rounds
abbrev pub GoesSoMany : (S T : Type 0) {C : Type 0} → CoreSteps C → (S → Option Traffic) → (waits longs : ℕ → C → Bool) → ℕ → (old new : Serving C) → Type 0
GoesSoMany S T {C} s told waits longs count old new = (rounds : List (Serving C)) × GoesRounds S T s told waits longs rounds old new × (length rounds ≡ count)

-- Why a run fails: as a round does, or behind as many rounds as there may be.
abbrev pub FailsBehind : (S T : Type 0) {C : Type 0} → CoreSteps C → (S → Option Traffic) → (waits longs : ℕ → C → Bool) → LoopFault → (old new : Serving C) → Type 0
FailsBehind S T s told waits longs fault old new = ComesOfWaiting fault new.failed ⊎ GoesSoMany S T s told waits longs (2 ^ 64 - 1) old new

-- it takes in no connection any more, and none is open
pub record IsOver {C : Type 0} (server : Serving C) : Type 0 where
  pub deaf : IsFalse server.listens
  pub empty : server.connected ≡ 0
