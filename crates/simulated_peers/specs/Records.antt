-- What the end of a pipe has recorded: this project's own.
use Rattle.std.specs.Prelude.{Option, Some}
use Rattle.outbox.specs.Traffic.{Traffic}
use Rattle.simulated_peers.specs.declared.pipe.End.{End}

-- all that was read and written at it
abbrev pub record_of : End → Option Traffic
record_of e = Some (record { read = e.read.items; written = e.written.items })
