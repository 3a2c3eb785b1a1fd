-- The connections that a loop has open, as its steps see them: this project's own.
use Rattle.std.specs.Prelude.{◌≡◌, ℕ, List, [], ◌∷◌, ◌++◌, map, Option, IfSome, IsTrue, IsFalse, Bool, false, is_some, nat_lt, ◌==◌, ◌&&◌, ◌||◌, length, ◌^◌, if◌then◌else◌}
use Rattle.std.specs.Option.{option_and_then, option_map_or}
use Rattle.slab.specs.Slab.{Slab, get, slab_len}
use Rattle.outbox.specs.Lines.{Line}
use Rattle.outbox.specs.Traffic.{Traffic}
use Rattle.connection_turns.specs.declared.claim.Claim.{Claim}
use Rattle.connection_turns.specs.declared.connection.Connection.{Connection}
use Rattle.open_connections.specs.declared.open.Open.{Open}
use Rattle.due_list.specs.declared.due.Due.{Due}
use Rattle.connection_turns.specs.Cores.{CoreSteps}
use Rattle.connection_turns.specs.Owed.{line_of, wire_of, is_lost, has_left, rests}
use Rattle.open_connections.specs.Looping.{Lanes, Task}
use Rattle.due_list.specs.Long.{is_crowded}
use Rattle.due_list.specs.Rounds as list
use Rattle.due_list.specs.Rounds.{IsLast, due_at}
use Rattle.memory_budget.specs.States.{is_waited_for}
use Rattle.connection_turns.specs.Expiring.{expiry_of, has_lingered}
use Rattle.connection_turns.specs.declared.connection.Outcome.{Outcome}
use Rattle.connection_turns.specs.declared.connection.Outcome.TheVariants as outcome
use Rattle.connection_turns.specs.declared.connection.Phase.{Phase}
use Rattle.connection_turns.specs.declared.connection.Phase.TheVariants.{Served, Lingering}
use Rattle.connection_turns.specs.declared.ending.End.{End}
use Rattle.connection_turns.specs.declared.limits.Limits.{Limits}
use Rattle.open_connections.specs.Shares.{claim_at, in_pool}

abbrev pub lines_in : {S : Type 0} → Slab (Connection S) → ℕ → Option Line
lines_in slab q = option_and_then (λ c. line_of c) (get slab q)

abbrev pub wires_in : {S : Type 0} → (S → Option Traffic) → Slab (Connection S) → ℕ → Option Traffic
wires_in told slab q = option_and_then (λ c. wire_of told c) (get slab q)

-- how many bytes were read and written
abbrev pub bytes_of : {S C T : Type 0} → Open S C T → ℕ × ℕ
bytes_of o = (o.read, o.written)

-- whether the one with this key is due
abbrev pub is_due_in : {S : Type 0} → Slab (Connection S) → (key : ℕ) → Bool
is_due_in slab key = option_map_or (λ c. c.is_due) (get slab key) false

-- and how much is left of its work
abbrev pub task_in : {S C : Type 0} → CoreSteps C → C → Slab (Connection S) → (key : ℕ) → Task
task_in s core slab key = record { is_due = is_due_in slab key; left = s.left key core }

abbrev pub lanes_of : {S C T : Type 0} → (s : CoreSteps C) → (S → Option Traffic) → Open S C T → Lanes s.Seen
lanes_of s told o = record { core = s.seen o.core; lines = lines_in o.connections; wires = wires_in told o.connections; claims = claim_at o.connections; budgets = o.budgets; bytes = bytes_of o; tasks = task_in s o.core o.connections }

-- more than 64 KiB are owed on the connection
abbrev pub owes_much : {S C T : Type 0} → (key : ℕ) → Open S C T → Bool
owes_much key o = option_map_or (λ c. nat_lt 65536 (length c.outbox.owed)) (get o.connections key) false

-- Turns took long lately, or the connection has a share of memory. And its turn may take long: much is owed on it, or its next request may, as the core tells it.
abbrev pub is_long : {S C T : Type 0} → (ℕ → C → Bool) → (key : ℕ) → Open S C T → Bool
is_long longs key o = nat_lt key (2 ^ 32) && ((is_crowded o.due.longs || is_some (claim_at o.connections key)) && (owes_much key o || longs key o.core))

-- there is time for its turn in this round
abbrev pub has_time : {S C T : Type 0} → (ℕ → C → Bool) → Due → Open S C T → Bool
has_time longs due o = list.has_time due (is_long longs due.key o) o.due

-- it is open still
abbrev pub is_there : {S C T : Type 0} → Due → Open S C T → Bool
is_there due o = option_map_or (λ c. c.number == due.number && nat_lt due.key (2 ^ 32)) (get o.connections due.key) false

-- a connection with this key is open
abbrev pub is_open_at : {S C T : Type 0} → (key : ℕ) → Open S C T → Bool
is_open_at key o = is_some (get o.connections key)

-- its turn comes in the next round
abbrev pub IsPutOff : {S C T : Type 0} → Due → Open S C T → Open S C T → Type 0
IsPutOff due old new = new.due.first.items ≡ old.due.first.items ++ (due ∷ [])

-- the connection with this key is served although its peer is gone
abbrev pub lost_at : {S C T : Type 0} → (key : ℕ) → Open S C T → Bool
lost_at key o = option_map_or (λ c. is_lost c) (get o.connections key) false

-- the one with this key is served and at rest
abbrev pub rests_at : {S C T : Type 0} → (key : ℕ) → Open S C T → Bool
rests_at key o = option_map_or (λ c. rests c) (get o.connections key) false

-- the one with this key is read no more, if it is there
abbrev pub HasLeft : {S C T : Type 0} → (key : ℕ) → Open S C T → Type 0
HasLeft key o = IfSome (get o.connections key) (λ c. IsTrue (has_left c))

-- the tenant that asked last on the one with this key
abbrev pub tenant_at : {S C T : Type 0} → (key : ℕ) → Open S C T → Option ℕ
tenant_at key o = option_and_then (λ c. c.tenant) (get o.connections key)

-- how many are open
abbrev pub connected_in : {S C T : Type 0} → Open S C T → ℕ
connected_in o = slab_len o.connections

-- what each is owed, and what their streams show, in lists by key
abbrev pub listed : {S : Type 0} → Slab (Connection S) → List (Option Line)
listed slab = map (λ slot. option_and_then (λ c. line_of c) slot) slab.slots

abbrev pub shown : {S : Type 0} → (S → Option Traffic) → Slab (Connection S) → List (Option Traffic)
shown told slab = map (λ slot. option_and_then (λ c. wire_of told c) slot) slab.slots

-- what each claims of the budgets
abbrev pub claimed : {S : Type 0} → Slab (Connection S) → List (Option Claim)
claimed slab = map (λ slot. option_and_then (λ c. c.claim) slot) slab.slots

-- the second by which the connection with this key is idle is this one, if it is there
abbrev pub IsMarked : {S C T : Type 0} → Open S C T → (key second : ℕ) → Type 0
IsMarked o key second = IfSome (get o.connections key) (λ c. c.moved ≡ second)

-- a query of the connection with this key is under way only if it gets a further turn
abbrev pub IsStanding : {S C T : Type 0} → (key : ℕ) → Open S C T → Type 0
IsStanding key o = IfSome (get o.connections key) (λ c. IsTrue c.is_working → IsTrue c.is_due)

-- if it gets one now and did not before, it is the last of those that get one
abbrev pub IsListed : {S C T : Type 0} → (key : ℕ) → Open S C T → Open S C T → Type 0
IsListed key old new = IfSome (get old.connections key) (λ c. IfSome (get new.connections key) (λ d. IsFalse c.is_due → IsTrue d.is_due → IsLast d.is_working (due_at key d.number d.tenant) old.due new.due))

-- it gets one just if it did
abbrev pub IsAsDue : {S C T : Type 0} → (key : ℕ) → Open S C T → Open S C T → Type 0
IsAsDue key old new = IfSome (get old.connections key) (λ c. IfSome (get new.connections key) (λ d. d.is_due ≡ c.is_due))

-- how the time of a connection is up: one that is served ends so, and one that lingers is closed
abbrev pub time_in : Phase → (has_lingered : Bool) → Option End → Outcome
time_in Served has_lingered end = option_map_or (λ how. outcome.Over how) end outcome.Open
time_in Lingering has_lingered end = if has_lingered then outcome.Closed else outcome.Open

-- of the one with this key, by what it holds of a budget for which others wait
abbrev pub expiry_at : {S C T : Type 0} → (key now : ℕ) → Limits → Open S C T → Outcome
expiry_at key now limits o =
    option_map_or (λ c. time_in c.phase (has_lingered now c) (expiry_of now limits (option_map_or (λ claim. is_waited_for (in_pool claim.pool o.budgets)) c.claim false) c)) (get o.connections key) outcome.Open
