-- Many tenants, each with a key and a map: one body served. It is this project's own rule that a step reads and changes the map of its own key alone.
use Rattle.std.specs.Prelude.{◌≡◌, ℕ, List, [], ◌++◌, length, replicate, slice_get, Option, Some, None, option_and_then, Bool, nat_lt, if◌then◌else◌, IsTrue}
use Rattle.std.specs.Bool.{MatchBool}
use Rattle.tenant_map.specs.Maps.{Map}
use Rattle.tenant_map.specs.Tenancy.{Tenancy, place_in, with_map}
use Rattle.wire_frames.specs.Requests.{number_of, key_of, reading}
use Rattle.wire_frames.specs.Replies.{reply}
use Rattle.request_replies.specs.Answers.{Answers, is_no_memory, reading_wants}

-- a tenant without texts for each key
abbrev pub fresh : List (List ℕ) → Tenancy
fresh keys = record { keys = keys; maps = replicate (length keys) [] }

-- the map of the tenant with that key
abbrev pub map_of : List ℕ → Tenancy → Option Map
map_of key t = option_and_then (λ place. slice_get t.maps place) (place_in t.keys key)

abbrev pub put_at : Option ℕ → Map → Tenancy → Tenancy
put_at None m t = t
put_at (Some place) m t = with_map t place m

-- the tenants with that map under the key
abbrev pub with_map_of : List ℕ → Map → Tenancy → Tenancy
with_map_of key m t = put_at (place_in t.keys key) m t

abbrev pub short_number : List ℕ → ℕ
short_number body = if nat_lt (length body) 5 then 0 else number_of body

abbrev pub is_short : List ℕ → Bool
is_short body = nat_lt (length body) 21

-- by the map of the tenant with the body's key: only that one changes
abbrev pub ServesBy : Option Map → List ℕ → Tenancy → List ℕ → Tenancy → Type 0
ServesBy None body t frame new = (frame ≡ reply 2 (number_of body) []) × (new ≡ t)
ServesBy (Some m) body t frame new = (m' : Map) × Answers m body frame m' × (new ≡ with_map_of (key_of body) m' t)

-- the reply to a body, and the tenants after it
abbrev pub ServesBody : Tenancy → List ℕ → List ℕ → Tenancy → Type 0
ServesBody t body frame new = MatchBool (is_short body)
    ((frame ≡ reply 1 (short_number body) []) × (new ≡ t))
    (ServesBy (map_of (key_of body) t) body t frame new)

-- it is one reply, and leaves the tenants in one way
abbrev pub BodiesAreServedOnce : Type 0
BodiesAreServedOnce = (t : Tenancy) (body first second : List ℕ) (a b : Tenancy) → ServesBody t body first a → ServesBody t body second b → (first ≡ second) × (a ≡ b)

-- memory may be wanted only where no reply is promised without it
abbrev pub BodyMayWant : Tenancy → List ℕ → Type 0
BodyMayWant t body = (frame : List ℕ) (new : Tenancy) → ServesBody t body frame new → IsTrue (reading_wants (reading body) frame)

-- One step: the reply that the maps give, or the reply that memory ran out, and then nothing changes.
abbrev pub Step : Tenancy → List ℕ → List ℕ → Tenancy → Type 0
Step old body frame new = MatchBool (is_no_memory frame) ((frame ≡ reply 21 (number_of body) []) × (new ≡ old) × BodyMayWant old body) (ServesBody old body frame new)

-- what is appended is the frame of such a step
abbrev pub Serves : Tenancy → List ℕ → List ℕ → List ℕ → Tenancy → Type 0
Serves old body before after new = (frame : List ℕ) × (after ≡ before ++ frame) × Step old body frame new
