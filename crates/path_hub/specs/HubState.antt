-- What a hub holds (this project's own): a framer's state for each connection, and the tenants. Compiled queries that it keeps are no part of it.
use Rattle.std.specs.Prelude.{ℕ, List}
use Rattle.wire_frames.specs.Framing.{Framing}
use Rattle.tenant_map.specs.Tenancy.{Tenancy}

pub record HubState : Type 0 where
  pub sessions : List (ℕ × Framing)
  pub tenants : Tenancy

abbrev pub state : List (ℕ × Framing) → Tenancy → HubState
state sessions tenants = record { sessions = sessions; tenants = tenants }
