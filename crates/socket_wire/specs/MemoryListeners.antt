-- What a listener over memory means: this project's own.
use Rattle.std.specs.Prelude.{ℕ, map, Option, Some, None}
use Rattle.std.specs.declared.vec.Vec.{Vec}
use Rattle.std.specs.declared.alloc.Global.{Global}
use Rattle.path_hub.specs.Wires.{Meaning}
use Rattle.path_hub.specs.MemoryWires.{unmoved}
use Rattle.socket_wire.specs.Listeners.{Listening}
use Rattle.socket_wire.specs.declared.memory_listener.MemoryListener.{MemoryListener}

-- a connection over memory that has done nothing
abbrev pub unused_over : Vec ℕ Global → Meaning
unused_over input = record { failures = 0; reads = 0; traffic = Some (unmoved input.items) }

-- it tells the connections that wait, and none that it took back
abbrev pub listening_of : MemoryListener → Option Listening
listening_of l = Some (record { waiting = map unused_over l.inputs.items; closed = None; failed = l.failed })
