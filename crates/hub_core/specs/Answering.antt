-- What the hub does for one connection, a request at a time: this project's own.
use Rattle.std.specs.Prelude.{◌≡◌, ℕ, List, [], Option, Some, None, Bool, false}
use Rattle.std.specs.Option.{option_map_or}
use Rattle.wire_frames.specs.Framing.{Framing, fresh}
use Rattle.path_hub.specs.HubState.{HubState}
use Rattle.path_hub.specs.Runs.{StepItem}
use Rattle.path_hub.specs.Pending.{Takes, pending}
use Rattle.path_hub.specs.Into.{IsTaken}
use Rattle.path_hub.specs.Sessions.{session, Sets}

-- a session is opened, and nothing else changes; one is ended
pub record Opens (conn : ℕ) (old new : HubState) : Type 0 where
  pub sets : Sets conn (Some fresh) old.sessions new.sessions
  pub tenants_stay : new.tenants ≡ old.tenants

pub record Closes (conn : ℕ) (old new : HubState) : Type 0 where
  pub sets : Sets conn None old.sessions new.sessions
  pub tenants_stay : new.tenants ≡ old.tenants

-- a piece is taken, and nothing is answered
abbrev pub takes : ℕ → HubState → List ℕ → HubState → Type 0
takes conn old piece new = IsTaken conn piece old new

-- the first frame or fault that waits on the connection is taken off and answered with this frame
pub record Answers (conn : ℕ) (old : HubState) (frame : List ℕ) (new : HubState) : Type 0 where
  pub framing : Framing
  pub was : session conn old.sessions ≡ Some framing
  pub left : Framing
  pub sets : Sets conn (Some left) old.sessions new.sessions
  pub body : Option (List ℕ)
  pub step : StepItem old.tenants body frame new.tenants
  pub takes_off : Takes framing body left

-- a framing fault closed it
abbrev pub is_over : ℕ → HubState → Bool
is_over conn now = option_map_or (λ f. f.closed) (session conn now.sessions) false

-- none waits
abbrev pub IsIdle : ℕ → HubState → Type 0
IsIdle conn now = (framing : Framing) → session conn now.sessions ≡ Some framing → pending framing ≡ []
