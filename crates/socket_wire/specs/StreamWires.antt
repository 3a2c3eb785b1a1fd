-- What a wire over a stream means: this project's own.
use Rattle.std.specs.Prelude.{None}
use Rattle.path_hub.specs.Wires.{Meaning}
use Rattle.socket_wire.specs.declared.stream_wire.StreamWire.{StreamWire}

-- a wire that has done nothing, and does not tell its bytes
abbrev pub unused : Meaning
unused = record { failures = 0; reads = 0; traffic = None }

abbrev pub meaning_of : {S : Type 0} → StreamWire S → Meaning
meaning_of w = record { failures = w.failures; reads = w.reads; traffic = None }

abbrev pub stream_of : {S : Type 0} → StreamWire S → S
stream_of w = w.stream
