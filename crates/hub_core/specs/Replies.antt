-- How long the reply to what waits on a connection may be: this project's own.
use Rattle.std.specs.Prelude.{◌≡◌, ℕ, ◌+◌, ◌≤◌, List, length, Option, Some, None}
use Rattle.wire_frames.specs.Frames.{Front, Whole, Wait, Fault}
use Rattle.wire_frames.specs.Requests.{Asked, Get, Put, PutNew, Remove, ListNames, Query, DropCollection, Usage, reading, Asks, key_of}
use Rattle.tenant_map.specs.Maps.{Map}
use Rattle.tenant_map.specs.Tenancy.{Tenancy}
use Rattle.request_replies.specs.Answers.{Does}
use Rattle.request_replies.specs.Tenants.{map_of}
use Rattle.path_hub.specs.HubState.{HubState}
use Rattle.hub_core.specs.Answering.{Answers}

-- whatever answers the first frame or fault that waits on the connection, it has at most so many bytes
abbrev pub IsMostReply : ℕ → HubState → ℕ → Type 0
IsMostReply conn hub most = (reply : List ℕ) (new : HubState) → Answers conn hub reply new → length reply ≤ most

-- ---- How that is found

-- the body of the whole frame that bytes begin with
abbrev pub body_at : Front → Option (List ℕ)
body_at (Whole body more) = Some body
body_at Wait = None
body_at Fault = None

-- a reply with a text has exactly so many bytes, and any other at most
abbrev pub Fits : Asked → (bytes most : ℕ) → Type 0
Fits (Get collection document) bytes most = bytes ≡ most
Fits (Put collection document text) bytes most = bytes ≤ most
Fits (PutNew collection document text) bytes most = bytes ≤ most
Fits (Remove collection document) bytes most = bytes ≤ most
Fits (ListNames collection) bytes most = bytes ≤ most
Fits (Query collection query) bytes most = bytes ≤ most
Fits (DropCollection collection) bytes most = bytes ≤ most
Fits Usage bytes most = bytes ≤ most

-- so has the reply to a command that is done: nine bytes, and the payload
abbrev pub IsMostFor : Asked → Map → ℕ → Type 0
IsMostFor asked m most = (payload : List ℕ) (m' : Map) → Does asked m payload m' → Fits asked (9 + length payload) most

-- where a tenant has the key
abbrev pub IsMostBy : Asked → Option Map → ℕ → Type 0
IsMostBy asked None most = Unit {0}
IsMostBy asked (Some m) most = IsMostFor asked m most

-- and a body asks it
abbrev pub IsMostTo : Tenancy → List ℕ → ℕ → Type 0
IsMostTo t body most = (number : ℕ) (key : List ℕ) (asked : Asked) → reading body ≡ Asks number key asked → IsMostBy asked (map_of (key_of body) t) most
