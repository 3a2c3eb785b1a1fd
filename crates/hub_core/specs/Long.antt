-- Which requests may take long: this project's own.
use Rattle.std.specs.Prelude.{ℕ, List, [], length, nat_lt, Bool, true, false, ◌||◌, Option}
use Rattle.std.specs.Option.{option_map_or}
use Rattle.wire_frames.specs.Frames.{front}
use Rattle.wire_frames.specs.Requests.{Asked, Reading, Put, PutNew, Get, Remove, ListNames, Query, DropCollection, Usage, Short, BadCommand, BadFields, Asks, reading, key_of}
use Rattle.tenant_map.specs.Maps.{Map, text_at, documents_of}
use Rattle.tenant_map.specs.Tenancy.{Tenancy}
use Rattle.request_replies.specs.Tenants.{map_of}
use Rattle.path_hub.specs.HubState.{HubState}
use Rattle.path_hub.specs.Sessions.{session}
use Rattle.hub_core.specs.Replies.{body_at}

-- a text of more than 64 KiB is there
abbrev pub holds_long : (collection document : List ℕ) → Map → Bool
holds_long collection document m = nat_lt 65536 (option_map_or (λ text. length text) (text_at collection document m) 0)

-- a query, a list of more than 500 names, what frees a whole collection, and what gives or frees a long text
abbrev pub is_long_for : Asked → Map → Bool
is_long_for (Get collection document) m = holds_long collection document m
is_long_for (Put collection document text) m = holds_long collection document m
is_long_for (Remove collection document) m = holds_long collection document m
is_long_for (ListNames collection) m = nat_lt 500 (length (documents_of collection m))
is_long_for (Query collection query) m = true
is_long_for (DropCollection collection) m = true
is_long_for (PutNew collection document text) m = false
is_long_for Usage m = false

-- where it asks something of a tenant
abbrev pub is_long_by : Reading → Option Map → Bool
is_long_by (Asks number key asked) m = option_map_or (is_long_for asked) m false
is_long_by (Short number) m = false
is_long_by (BadCommand number key) m = false
is_long_by (BadFields number key) m = false

-- a body of more than 4 KiB, or one that asks such a thing
abbrev pub is_long_to : Tenancy → List ℕ → Bool
is_long_to t body = nat_lt 4096 (length body) || is_long_by (reading body) (map_of (key_of body) t)

-- the request that is answered next on a connection
abbrev pub is_first_long : ℕ → HubState → Bool
is_first_long conn h = option_map_or (is_long_to h.tenants) (body_at (front (option_map_or (λ f. f.waiting) (session conn h.sessions) []))) false
