-- What the request asks that is answered next on a connection, as it is counted: this project's own.
use Rattle.std.specs.Prelude.{ℕ, List, length, Option, Some, None}
use Rattle.wire_frames.specs.Requests.{command_of}
use Rattle.tenant_map.specs.Tenancy.{Tenancy}
use Rattle.path_hub.specs.UnderWay.{tenant_asked}
use Rattle.connection_turns.specs.declared.answered.RequestKind.{RequestKind}

-- a framing fault asks nothing
abbrev pub asks : Tenancy → Option (List ℕ) → RequestKind
asks t None = record { command = 0; tenant = None; bytes = 0 }
asks t (Some body) = record { command = command_of body; tenant = tenant_asked t body; bytes = length body }
