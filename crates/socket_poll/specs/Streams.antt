-- A stream that was accepted: this project's own.
use Rattle.std.specs.Prelude.{Option}
use Rattle.outbox.specs.Traffic.{Traffic, IsUnused}
use Rattle.socket_poll.specs.declared.system.Accepted.{Accepted}
use Rattle.socket_poll.specs.declared.system.Accepted.TheVariants.{Stream, Blocked, Aborted, Refused}

-- nothing moved on it yet, as far as it tells
abbrev pub IsNew : {S : Type 0} → (S → Option Traffic) → Accepted S → Type 0
IsNew told (Stream stream peer) = IsUnused (told stream)
IsNew told Blocked = Unit {0}
IsNew told Aborted = Unit {0}
IsNew told Refused = Unit {0}
