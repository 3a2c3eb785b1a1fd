-- What becomes of a connection in its turn: this project's own.
use Rattle.std.specs.Prelude.{◌≡◌, ◌≢◌, ◌⊎◌, ◌≤◌, ℕ, ◌+◌, List, length, Option, Some, None, IfSome, is_some, Result, Ok, Err, Bool, true, false, not, ◌&&◌, IsFalse, IsTrue}
use Rattle.std.specs.Option.{option_map}
use Rattle.slab.specs.Slab.{Slab, get}
use Rattle.due_list.specs.Long.{is_crowded}
use Rattle.memory_budget.specs.States.{may_grow}
use Rattle.wire_frames.specs.declared.parts.TheConstants.{MOST_REPLY}
use Rattle.outbox.specs.Appends.{KeepsWork}
use Rattle.outbox.specs.Lines.{cap, is_over}
use Rattle.outbox.specs.Traffic.{Traffic}
use Rattle.outbox.specs.Turns.{Advances, IsTold, HasFallen, HasNotRisen, can_answer, count_of, here, moves, settles_at}
use Rattle.outbox.specs.declared.readiness.Readiness.{Readiness}
use Rattle.connection_turns.specs.Held.{covers_in}
use Rattle.connection_turns.specs.declared.ahead.Ahead.{Ahead}
use Rattle.connection_turns.specs.declared.claim.Claim.{Claim}
use Rattle.connection_turns.specs.declared.claim.Need.{Need}
use Rattle.connection_turns.specs.declared.claim.Pool.TheVariants.{Tenants}
use Rattle.connection_turns.specs.declared.claim.Purpose.TheVariants.{Reply}
use Rattle.connection_turns.specs.declared.connection.Connection.{Connection}
use Rattle.connection_turns.specs.declared.connection.Phase.{Phase}
use Rattle.connection_turns.specs.declared.connection.Phase.TheVariants.{Served, Lingering}
use Rattle.connection_turns.specs.declared.connection.TurnPlan.{TurnPlan}
use Rattle.connection_turns.specs.declared.connection.TurnPlan.TheVariants.{Write, Read, Answer}
use Rattle.connection_turns.specs.declared.connection.Outcome.{Outcome}
use Rattle.connection_turns.specs.declared.connection.Outcome.TheVariants as outcome
use Rattle.connection_turns.specs.declared.ending.End.TheVariants as end
use Rattle.connection_turns.specs.Planning.{can_go_by, ends, plan_of}
use Rattle.connection_turns.specs.Turning.{Adds, DrainsOn, is_answering}
use Rattle.open_connections.specs.declared.budgets.Budgets.{Budgets}
use Rattle.open_connections.specs.declared.open.Open.{Open}
use Rattle.connection_turns.specs.Cores.{CoreSteps, is_held}
use Rattle.open_connections.specs.Joined.{Joined}
use Rattle.open_connections.specs.Looping.{Drained, HasTurn, Does, PassedBy}
use Rattle.open_connections.specs.Opened.{lanes_of}
use Rattle.open_connections.specs.Shares.{claim_at, is_covered}

-- whether there is room for any reply
abbrev pub has_room : Budgets → Bool
has_room budgets = may_grow budgets.tenants (cap + MOST_REPLY)

-- what is done with the connection with this key, and what may be done at it without a wait
abbrev pub state_at : {S C T : Type 0} → (key : ℕ) → Open S C T → Option (Phase × Readiness)
state_at key o = option_map {U = Phase × Readiness} (λ c. (c.phase, c.ready)) (get o.connections key)

-- what is so of each connection stays so, and none comes or goes
pub record Keep {S A : Type 0} (of : Connection S → A) (old new : Slab (Connection S)) : Type 0 where
  pub at : (q : ℕ) → option_map of (get new q) ≡ option_map of (get old q)

-- its number, what is done with it, and what may be done at it without a wait
abbrev pub standing_of : {S : Type 0} → Connection S → ℕ × Phase × Readiness
standing_of c = (c.number, c.phase, c.ready)

abbrev pub StatesStay : {S C T : Type 0} → Open S C T → Open S C T → Type 0
StatesStay old new = Keep standing_of old.connections new.connections

-- the number of the one under this key
abbrev pub number_at : {S : Type 0} → Slab (Connection S) → (key : ℕ) → Option ℕ
number_at slab key = option_map (λ c. c.number) (get slab key)

-- That of all but the connection under one key stays so. Under that key the same one is open, or none.
pub record OthersStand {S C T : Type 0} (key : ℕ) (old new : Open S C T) : Type 0 where
  pub stand : (q : ℕ) → q ≢ key → option_map standing_of (get new.connections q) ≡ option_map standing_of (get old.connections q)
  pub none_comes : IfSome (get new.connections key) (λ c. number_at old.connections key ≡ Some c.number)

-- what a claim asks for, whether it is granted or not
abbrev pub asked_by : Claim → Claim
asked_by claim = record claim { is_granted = false; since = 0 }

-- what each has of memory, or waits for: it may be granted
abbrev pub ClaimsStay : {S C T : Type 0} → Open S C T → Open S C T → Type 0
ClaimsStay old new = Keep (λ c. option_map asked_by c.claim) old.connections new.connections

-- the one with this key has a share of memory, or waits for one
abbrev pub HasClaim : {S C T : Type 0} → (key : ℕ) → Open S C T → Type 0
HasClaim key o = option_map (λ c. is_some c.claim) (get o.connections key) ≡ Some true

-- it waits for a share
abbrev pub is_queued_in : Option Claim → Bool
is_queued_in None = false
is_queued_in (Some claim) = not claim.is_granted

abbrev pub IsQueued : {S C T : Type 0} → (key : ℕ) → Open S C T → Type 0
IsQueued key o = option_map (λ c. is_queued_in c.claim) (get o.connections key) ≡ Some true

-- it is granted
abbrev pub is_held_in : Option Claim → Bool
is_held_in None = false
is_held_in (Some claim) = claim.is_granted

-- a reply of so many bytes may be given on the one with this key
abbrev pub IsCovered : {S C T : Type 0} → (key reply : ℕ) → Open S C T → Type 0
IsCovered key reply o = IsTrue (is_covered (claim_at o.connections key) reply)

-- whatever may be answered on it now may be given, if each claim has its share
abbrev pub AreCovered : {S C T : Type 0} → CoreSteps C → (key : ℕ) → Open S C T → Open S C T → Type 0
AreCovered {C = C} s key old new = Joined (claim_at old.connections) old.budgets → (reply : List ℕ) (core : s.Seen) → s.answers key (s.seen old.core) reply core → IsCovered key (length reply) new

-- it may be given once its claim is granted
abbrev pub WillCover : {S C T : Type 0} → (key reply : ℕ) → Open S C T → Type 0
WillCover key reply o = IfSome (claim_at o.connections key) (λ claim. IsTrue (covers_in claim.purpose claim.bytes reply))

-- so much as a reply needs is asked for of the tenants' budget: no more than a longest one
abbrev pub IsForReply : Need → Type 0
IsForReply need = (need.pool ≡ Tenants) × (need.purpose ≡ Reply) × (need.bytes ≤ MOST_REPLY)

-- nothing is done in its turn, and the core has under way what it had
abbrev pub IsLeft : {S C T : Type 0} → CoreSteps C → (S → Option Traffic) → (key : ℕ) → Open S C T → Open S C T → Type 0
IsLeft s told key old new = PassedBy key (lanes_of s told old) (lanes_of s told new) × (new.core ≡ old.core)

-- the request that is answered next on the one with this key is not gone on with in the turn that began
abbrev pub held_at : {S C T : Type 0} → (waits longs : ℕ → C → Bool) → (key : ℕ) → Open S C T → Bool
held_at waits longs key o = is_held waits longs (is_crowded o.due.longs && not o.due.longs.is_under_way) key o.core

-- One that is served has its turn by this plan, which adds at most so much to what is owed. If it can do something, bytes or requests of this turn move, or what might have been done
-- wants a wait. It is over if nothing is read or written any more. If they move nothing, nothing may be done now that might not be before. Where no request is said to wait, none does, if
-- so before. What is under way stays or falls, unless a reply was given or the line ended. A turn that answers brings a request nearer to its reply, unless the first one is held.
pub record TurnsBy {S C T : Type 0} (s : CoreSteps C) (told : S → Option Traffic) (plan : TurnPlan) (is_held : Bool) (key : ℕ) (ready : Readiness) (result : Outcome) (old new : Open S C T) : Type 0 where
  pub turn : Does s (HasTurn key) (lanes_of s told old) (lanes_of s told new)
  pub ready' : Readiness
  pub is_ready : state_at key new ≡ Some (Served, ready')
  pub goes_on : can_go_by plan ready turn.line ≡ true → (moves turn.line turn.takes_turn.events ≡ true) ⊎ HasFallen ready ready'
  pub rises : moves turn.line turn.takes_turn.events ≡ false → HasNotRisen ready ready'
  pub noted : IsTold (s.idle key) (here turn.line None (s.seen old.core) (s.left key old.core) ready) → IsTold (s.idle key) (here turn.line' None (s.seen new.core) (s.left key new.core) ready')
  pub over : ends result ≡ is_over turn.line'
  pub adds : Adds plan (s.answers key) (s.seen old.core) (length turn.line.owed) (length turn.line'.owed)
  pub works : count_of settles_at turn.takes_turn.events ≡ 0 → KeepsWork (s.left key old.core) (s.left key new.core)
  pub advances : is_held ≡ false → IsTrue (is_answering plan) → can_answer ready turn.line ≡ true
      → Advances (s.takes key) (s.answers key) (here turn.line None (s.seen old.core) (s.left key old.core) ready) (here turn.line' None (s.seen new.core) (s.left key new.core) ready')

-- What still comes on one that is served no further is thrown away: bytes came, or a read would wait, or the connection is to be closed.
pub record DrainsAt {S C T : Type 0} (s : CoreSteps C) (told : S → Option Traffic) (key : ℕ) (result : Outcome) (old new : Open S C T) : Type 0 where
  pub drained : Does s (Drained key) (lanes_of s told old) (lanes_of s told new)
  pub ready' : Readiness
  pub is_ready : state_at key new ≡ Some (Lingering, ready')
  pub goes_on : DrainsOn ((lanes_of s told old).wires key) ((lanes_of s told new).wires key) ready' result

-- a turn by a plan
abbrev pub HasTurnIn : {S C T : Type 0} → Phase → CoreSteps C → (S → Option Traffic) → TurnPlan → (is_held : Bool) → (key : ℕ) → Readiness → Outcome → Open S C T → Open S C T → Type 0
HasTurnIn Served s told plan is_held key ready result old new = TurnsBy s told plan is_held key ready result old new
HasTurnIn Lingering s told plan is_held key ready result old new = DrainsAt s told key result old new

abbrev pub HasTurnBy : {S C T : Type 0} → CoreSteps C → (S → Option Traffic) → TurnPlan → (is_held : Bool) → (key : ℕ) → Connection S → Outcome → Open S C T → Open S C T → Type 0
HasTurnBy s told plan is_held key c result old new = HasTurnIn c.phase s told plan is_held key c.ready result old new

-- the plan of the connection's next turn: one that lingers is read
abbrev pub plan_in : Phase → TurnPlan → TurnPlan
plan_in Served plan = plan
plan_in Lingering plan = Read

abbrev pub plan_at : {S C T : Type 0} → Connection S → Open S C T → TurnPlan
plan_at c o = plan_in c.phase (plan_of (has_room o.budgets) c)

-- the plan answers, and the request may wait for a query of its tenant
abbrev pub StandsBy : {S C T : Type 0} → (ℕ → C → Bool) → (key : ℕ) → TurnPlan → Open S C T → Type 0
StandsBy waits key plan o = IsTrue (is_answering plan && waits key o.core)

-- the bound that is told of the reply to what is in front on the one with this key is not covered: without a share it is above what each may have so, and with one that is not granted, or not
-- long enough
abbrev pub IsShort : {S C T : Type 0} → CoreSteps C → (key : ℕ) → Open S C T → Type 0
IsShort s key o = (ahead : Ahead) × s.aheads key o.core ahead × IsFalse (is_covered (claim_at o.connections key) ahead.most_reply)

-- What comes of a turn before it begins: its plan, or a write alone where it stands by. If it answers one request, memory may be refused for the reply, or the reply waits for a share.
abbrev pub Prepares : {S C T : Type 0} → (ℕ → C → Bool) → (key : ℕ) → TurnPlan → Result TurnPlan Outcome → Open S C T → Open S C T → Type 0
Prepares waits key plan (Ok next) old new = (next ≡ plan) ⊎ ((next ≡ Write) × StandsBy waits key plan old)
Prepares waits key plan (Err result) old new =
    (plan ≡ Answer) × ((result ≡ outcome.Over end.Memory) ⊎ ((result ≡ outcome.Open) × IsQueued key new))

-- One that is served has its turn by its plan. If that answers one request, a granted share covers the reply, or it is within what each may have without one. If the plan answers, what is
-- owed may be written in place of that, where the request may wait for a query. Or nothing is done where the bound of the reply is not covered: memory is refused, or the reply waits for a share.
abbrev pub GetsTurnIn : {S C T : Type 0} → Phase → CoreSteps C → (S → Option Traffic) → (ℕ → C → Bool) → TurnPlan → (key : ℕ) → Readiness → Outcome → Open S C T → Open S C T → Type 0
GetsTurnIn Served s told waits plan key ready result old new =
    (TurnsBy s told plan false key ready result old new × (plan ≡ Answer → AreCovered s key old new))
    ⊎ ((StandsBy waits key plan old × TurnsBy s told Write false key ready result old new)
    ⊎ (IsLeft s told key old new × StatesStay old new × Prepares waits key plan (Err result) old new × IsShort s key old))
GetsTurnIn Lingering s told waits plan key ready result old new = DrainsAt s told key result old new

abbrev pub GetsTurn : {S C T : Type 0} → CoreSteps C → (S → Option Traffic) → (ℕ → C → Bool) → (key : ℕ) → Connection S → Outcome → Open S C T → Open S C T → Type 0
GetsTurn s told waits key c result old new = GetsTurnIn c.phase s told waits (plan_at c old) key c.ready result old new
