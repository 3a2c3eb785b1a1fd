-- The frame that the bytes of a connection begin with, where its key came and its end did not: this project's own.
use Rattle.std.specs.Prelude.{◌≡◌, ℕ, ◌+◌, ◌<◌, ◌≤◌, List, [], length, slice_range, is_some, nat_lt, Option, None, if◌then◌else◌}
use Rattle.std.specs.Option.{option_map_or}
use Rattle.wire_frames.specs.Frames.{body_length, longest_body}
use Rattle.tenant_map.specs.Tenancy.{Tenancy, place_in}
use Rattle.wire_frames.specs.declared.parts.Part.{Part}
use Rattle.path_hub.specs.HubState.{HubState}
use Rattle.path_hub.specs.Sessions.{session}

-- the bytes of the whole frame and those still to come, and whether its key is a tenant's
pub record IsPart (tenancy : Tenancy) (bytes : List ℕ) (part : Part) : Type 0 where
  pub within : body_length bytes ≤ longest_body
  pub whole : part.length ≡ 4 + body_length bytes
  pub more : length bytes + part.left ≡ part.length
  pub some : 0 < part.left
  pub known : part.is_known ≡ is_some (place_in tenancy.keys (slice_range bytes 9 25))

-- the place of the tenant whose key these bytes have where the first frame has its own
abbrev pub front_of : Tenancy → List ℕ → Option ℕ
front_of tenancy bytes = if nat_lt (length bytes) 25 then None else place_in tenancy.keys (slice_range bytes 9 25)

-- the tenant of the frame in front of what waits on a connection
abbrev pub front_at : ℕ → HubState → Option ℕ
front_at conn h = front_of h.tenants (option_map_or (λ f. f.waiting) (session conn h.sessions) [])

-- the key did not come, or all of the frame did, or its length is above the limit
abbrev pub IsNoPart : List ℕ → Type 0
IsNoPart bytes = 25 ≤ length bytes → body_length bytes ≤ longest_body → 4 + body_length bytes ≤ length bytes
