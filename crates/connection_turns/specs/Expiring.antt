-- When the time of a connection is up, by the second: this project's own.
use Rattle.std.specs.Prelude.{ℕ, ◌-◌, max, nat_le, nat_lt, Option, Some, None, Bool, not, ◌&&◌, if◌then◌else◌}
use Rattle.outbox.specs.Lines.{owes}
use Rattle.connection_turns.specs.declared.claim.Claim.{Claim}
use Rattle.connection_turns.specs.declared.connection.Connection.{Connection}
use Rattle.connection_turns.specs.declared.ending.End.{End}
use Rattle.connection_turns.specs.declared.ending.End.TheVariants.{Idle, Stalled, Slow}
use Rattle.connection_turns.specs.declared.limits.Limits.{Limits}

-- for so many seconds no byte may move: a limit, and at least 30 where bytes are owed
abbrev pub patience_of : {S : Type 0} → (seconds : ℕ) → Connection S → ℕ
patience_of seconds c = if owes c.outbox then max seconds 30 else seconds

-- no byte moved for longer, and it is not to have a turn
abbrev pub is_quiet : {S : Type 0} → (now seconds : ℕ) → Connection S → Bool
is_quiet now seconds c = not c.is_due && nat_lt (patience_of seconds c) (now - c.moved)

-- one is closed that is quiet for longer than the limit on idle time, if there is one
abbrev pub idle_end : {S : Type 0} → (now : ℕ) → Option ℕ → Connection S → Option End
idle_end now None c = None
idle_end now (Some seconds) c = if is_quiet now seconds c then Some Idle else None

-- one that waits for its share has time; one that holds a share for which others wait has the limits on stalls and on frames too
abbrev pub end_in : {S : Type 0} → (now : ℕ) → Limits → (is_waited_for : Bool) → Option Claim → Connection S → Option End
end_in now limits is_waited_for None c = idle_end now limits.idle c
end_in now limits is_waited_for (Some claim) c =
    if not claim.is_granted then None
    else (if is_waited_for && is_quiet now limits.stall c then Some Stalled
    else (if is_waited_for && nat_lt limits.frame_time (now - claim.since) then Some Slow else idle_end now limits.idle c))

abbrev pub expiry_of : {S : Type 0} → (now : ℕ) → Limits → (is_waited_for : Bool) → Connection S → Option End
expiry_of now limits is_waited_for c = end_in now limits is_waited_for c.claim c

-- one that lingers does so for 2 seconds
abbrev pub has_lingered : {S : Type 0} → (now : ℕ) → Connection S → Bool
has_lingered now c = nat_le 2 (now - c.moved)
