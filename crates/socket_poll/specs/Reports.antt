-- Reports on connections: this project's own.
use Rattle.std.specs.Prelude.{ℕ, true, false}
use Rattle.socket_poll.specs.declared.system.Report.{Report}

-- a peer that ended its side: what it sent can be read, and it still takes
abbrev pub ended_at : ℕ → Report
ended_at key = record { key = key; is_readable = true; is_writable = false; is_ending = true; is_urgent = false; is_gone = false }
