-- What the next turn of a connection does, whether it does anything, and what comes of it: this project's own.
use Rattle.std.specs.Prelude.{◌≡◌, ℕ, length, nat_lt, Option, Some, None, Bool, true, false, not, ◌==◌, ◌&&◌, ◌||◌, if◌then◌else◌}
use Rattle.outbox.specs.Lines.{Line, is_over}
use Rattle.outbox.specs.Turns as turns
use Rattle.outbox.specs.declared.readiness.Readiness.{Readiness}
use Rattle.socket_poll.specs.declared.system.Report.{Report}
use Rattle.connection_turns.specs.declared.claim.Claim.{Claim}
use Rattle.connection_turns.specs.declared.claim.Purpose.{Purpose}
use Rattle.connection_turns.specs.declared.claim.Purpose.TheVariants.{Frame, Reply, Written}
use Rattle.connection_turns.specs.declared.connection.Phase.{Phase}
use Rattle.connection_turns.specs.declared.connection.Phase.TheVariants.{Served, Lingering}
use Rattle.connection_turns.specs.declared.connection.TurnPlan.{TurnPlan}
use Rattle.connection_turns.specs.declared.connection.TurnPlan.TheVariants.{Write, Read, Answer, All}
use Rattle.connection_turns.specs.declared.connection.Outcome.{Outcome}
use Rattle.connection_turns.specs.declared.connection.Outcome.TheVariants as outcome
use Rattle.connection_turns.specs.declared.connection.Connection.{Connection}
use Rattle.connection_turns.specs.declared.ending.End.{End}
use Rattle.connection_turns.specs.declared.ending.End.TheVariants as end
use Rattle.connection_turns.specs.declared.socket.Fate.{Fate}
use Rattle.connection_turns.specs.declared.socket.Fate.TheVariants as fate
use Rattle.connection_turns.specs.Owed.{is_lost}

-- what is reported stays known, beside what was
abbrev pub raised : Report → Readiness → Readiness
raised report ready = record { readable = ready.readable || report.is_readable; writable = ready.writable || report.is_writable; waiting = ready.waiting }

-- a share with this ticket is granted from now on, and any other stays as it is
abbrev pub granted : (ticket now : ℕ) → Option Claim → Option Claim
granted ticket now None = None
granted ticket now (Some claim) = if claim.ticket == ticket then Some (record claim { is_granted = true; since = now }) else Some claim

-- what waits is answered, or else a piece is read
abbrev pub next_of : Readiness → TurnPlan
next_of ready = if ready.waiting then Answer else Read

-- with a granted share, by what it is for
abbrev pub plan_for : Purpose → Readiness → TurnPlan
plan_for Frame ready = next_of ready
plan_for Reply ready = Answer
plan_for Written ready = Write

-- less is owed than what each may buffer without a share
abbrev pub owes_little : Line → Bool
owes_little line = nat_lt (length line.owed) 16384

-- with a share, and with none
abbrev pub plan_in : (has_room is_working : Bool) → Option Claim → Readiness → Line → TurnPlan
plan_in has_room is_working (Some claim) ready line = if not claim.is_granted || turns.can_write ready line then Write else plan_for claim.purpose ready
plan_in has_room is_working None ready line =
    if has_room && (not is_working && owes_little line) then All else (if turns.can_write ready line || not (owes_little line) then Write else next_of ready)

abbrev pub plan_of : {S : Type 0} → (has_room : Bool) → Connection S → TurnPlan
plan_of has_room c = plan_in has_room c.is_working c.claim c.ready c.outbox

-- whether a turn by this plan does anything
abbrev pub can_go_by : TurnPlan → Readiness → Line → Bool
can_go_by Write ready line = turns.can_write ready line
can_go_by Read ready line = turns.can_read ready line
can_go_by Answer ready line = turns.can_answer ready line
can_go_by All ready line = turns.can_go_on ready line

abbrev pub goes_in : Phase → (readable served : Bool) → Bool
goes_in Lingering readable served = readable
goes_in Served readable served = served

-- whether a turn does anything: one whose peer is gone is ended by it
abbrev pub can_go_on : {S : Type 0} → (has_room : Bool) → Connection S → Bool
can_go_on has_room c = is_lost c || goes_in c.phase c.ready.readable (can_go_by (plan_of has_room c) c.ready c.outbox)

-- it stays the same one, and gets a turn just if it did
abbrev pub KeepsTurn : {S : Type 0} → Connection S → Connection S → Type 0
KeepsTurn old new = (new.number ≡ old.number) × (new.is_due ≡ old.is_due)

-- how one ends that is over, by what became of its stream
abbrev pub end_of : Fate → (has_faulted : Bool) → End
end_of fate.Lives has_faulted = if has_faulted then end.FrameFault else end.Memory
end_of fate.Ended has_faulted = end.Done
end_of fate.Unread has_faulted = end.ReadFault
end_of fate.Unwritten has_faulted = end.WriteFault
end_of fate.Left has_faulted = end.Drained

-- it ends once it is not read any more and owes nothing
abbrev pub outcome_of : {S : Type 0} → Connection S → Outcome
outcome_of c = if is_over c.outbox then outcome.Over (end_of c.socket.fate c.has_faulted) else outcome.Open

-- whether it is served no further
abbrev pub ends : Outcome → Bool
ends outcome.Open = false
ends (outcome.Over how) = true
ends outcome.Closed = true
