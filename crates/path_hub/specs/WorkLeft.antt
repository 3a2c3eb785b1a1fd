-- How much is left of what the first request on a connection has under way (this project's own), and what a step leaves of it.
use Rattle.std.specs.Prelude.{◌≡◌, ◌≢◌, ◌<◌, ℕ, List, Option, Some, None, Bool, ◌&&◌, ◌==◌, is_some, option_and_then, if◌then◌else◌}
use Rattle.std.specs.Option.{option_map}
use Rattle.tenant_map.specs.Tenancy.{Tenancy, place_in}
use Rattle.tenant_store.specs.Walks.{work_left}
use Rattle.wire_frames.specs.Framing.{Framing}
use Rattle.wire_frames.specs.NextFrame.{next_of}
use Rattle.wire_frames.specs.declared.framing.Next.{Next}
use Rattle.wire_frames.specs.declared.framing.Next.TheVariants as next
use Rattle.wire_frames.specs.Requests.{Asked, Asks, Query, Reading, reading}
use Rattle.path_hub.specs.declared.tasks.RunningQuery.{RunningQuery}
use Rattle.path_hub.specs.declared.tasks.Tasks.{Tasks}
use Rattle.path_hub.specs.HubState.{HubState}
use Rattle.path_hub.specs.Runs.{StepItem, same}
use Rattle.path_hub.specs.Sessions.{Sets, session}
use Rattle.path_hub.specs.UnderWay.{Clears, WorksOnFirst, is_long, reading_at, task_at, text_in}

-- it is the query of the tenant at this place, on this collection, with this text
abbrev pub is_of : RunningQuery → (place : ℕ) → (collection text : List ℕ) → Bool
is_of a place collection text = (a.place == place) && same a.collection.items collection && same a.query.items text

-- the work that is left of this query, if the connection has it under way
abbrev pub query_left : (conn place : ℕ) → (collection text : List ℕ) → Tasks → Option ℕ
query_left conn place collection text tasks = option_and_then (λ a. if is_of a place collection text then Some (work_left a.task.value) else None) (task_at conn tasks)

-- the places that are left of the text of a long body, if the connection reads it
abbrev pub text_left : (conn : ℕ) → (body : List ℕ) → Tasks → Option ℕ
text_left conn body tasks = if is_long body then option_map (λ r. r.task.value.left) (reading_at conn tasks) else None

-- so of what a body asks of the tenant at a place
abbrev pub asked_left : (conn place : ℕ) → (body : List ℕ) → Asked → Tasks → Option ℕ
asked_left conn place body (Query collection text) tasks = query_left conn place collection text tasks
asked_left conn place body asked tasks = if is_some (text_in asked) then text_left conn body tasks else None

abbrev pub read_left : (conn : ℕ) → (body : List ℕ) → Reading → (keys : List (List ℕ)) → Tasks → Option ℕ
read_left conn body (Asks number key asked) keys tasks = option_and_then (λ place. asked_left conn place body asked tasks) (place_in keys key)
read_left conn body refused keys tasks = None

abbrev pub next_left : ℕ → Next → (keys : List (List ℕ)) → Tasks → Option ℕ
next_left conn (next.Frame body) keys tasks = read_left conn body (reading body) keys tasks
next_left conn next keys tasks = None

-- and of the first request that waits on the connection
abbrev pub work_left_at : ℕ → HubState → Tasks → Option ℕ
work_left_at conn h tasks = option_and_then (λ f. next_left conn (next_of f) h.tenants.keys tasks) (session conn h.sessions)

-- some is left now, and less than was
pub record Falls (was now : Option ℕ) : Type 0 where
  pub left : ℕ
  pub some : now ≡ Some left
  pub less : (n : ℕ) → was ≡ Some n → left < n

-- What is left falls where a share works. It is none where a reply was given or all is given up. That of another connection stays where its session and the
-- keys do, which no step of a request changes.
pub record WorkIsLeft : Type 0 where
  pub falls : (conn : ℕ) (h : HubState) (f : Framing) (old new : Tasks) → session conn h.sessions ≡ Some f → WorksOnFirst conn f h.tenants old new → Falls (work_left_at conn h old) (work_left_at conn h new)
  pub beside : (conn q : ℕ) (h : HubState) (f : Framing) (old new : Tasks) → q ≢ conn → WorksOnFirst conn f h.tenants old new → work_left_at q h new ≡ work_left_at q h old
  pub ends : (conn : ℕ) (h : HubState) (old new : Tasks) → Clears conn old new → work_left_at conn h new ≡ None
  pub others : (conn q : ℕ) (v : Option Framing) (h h' : HubState) (old new : Tasks) → q ≢ conn → Sets conn v h.sessions h'.sessions → h'.tenants.keys ≡ h.tenants.keys → Clears conn old new → work_left_at q h' new ≡ work_left_at q h old
  pub stays : (q : ℕ) (h h' : HubState) (old new : Tasks) → session q h'.sessions ≡ session q h.sessions → h'.tenants.keys ≡ h.tenants.keys → task_at q new ≡ task_at q old → reading_at q new ≡ reading_at q old → work_left_at q h' new ≡ work_left_at q h old
  pub keys : (old new : Tenancy) (body : Option (List ℕ)) (frame : List ℕ) → StepItem old body frame new → new.keys ≡ old.keys
