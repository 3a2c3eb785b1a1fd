-- Queries and readings under way (this project's own): one of a connection's at most. They are no part of a hub's state.
use Rattle.std.specs.Prelude.{◌≡◌, ◌⊎◌, ◌<◌, ℕ, List, length, slice_get, Option, Some, None, is_some, Bool, true, false, not, ◌&&◌, ◌||◌, ◌==◌, nat_lt, if◌then◌else◌}
use Rattle.std.specs.BTreeMap.{is_at}
use Rattle.std.specs.List.{list_any}
use Rattle.std.specs.Map.{lookup}
use Rattle.std.specs.Option.{option_map_or}
use Rattle.std.specs.Ordering.{nat_cmp}
use Rattle.path_grammar.specs.Tree.{Segments}
use Rattle.path_types.specs.Verdict.{IsValidQuery}
use Rattle.tape_select.specs.Budget.{budget}
use Rattle.tenant_map.specs.Maps.{Map, documents_of}
use Rattle.tenant_map.specs.Tenancy.{Tenancy, place_in}
use Rattle.tenant_store.specs.Walks.{SpendsShare, units_left, work_left}
use Rattle.tenant_store.specs.declared.tasks.Progress.{Progress}
use Rattle.tenant_store.specs.declared.tasks.Progress.TheVariants.{Complete, Paused}
use Rattle.wire_frames.specs.Frames.{Whole, front}
use Rattle.wire_frames.specs.Framing.{Framing}
use Rattle.wire_frames.specs.NextFrame.{next_of}
use Rattle.wire_frames.specs.declared.framing.Next.{Next}
use Rattle.wire_frames.specs.declared.framing.Next.TheVariants as next
use Rattle.wire_frames.specs.Readings.{asked_of}
use Rattle.wire_frames.specs.Requests as wire
use Rattle.wire_frames.specs.Requests.{Asks, Query, key_of, reading}
use Rattle.path_hub.specs.declared.tasks.RunningQuery.{RunningQuery}
use Rattle.path_hub.specs.declared.tasks.Reading.{Reading}
use Rattle.path_hub.specs.declared.tasks.Tasks.{Tasks}
use Rattle.path_hub.specs.declared.tasks.Advance.{Advance}
use Rattle.path_hub.specs.declared.tasks.Advance.TheVariants as share
use Rattle.request_replies.specs.Shares.{Goes, IsCharge}
use Rattle.request_replies.specs.Tenants.{Serves, is_short}
use Rattle.request_replies.specs.declared.placing.Placed.{Placed}
use Rattle.path_hub.specs.Pending.{Answered, IsIdle}
use Rattle.path_hub.specs.Sessions.{session}
use Rattle.path_hub.specs.HubState.{HubState}
use Rattle.path_hub.specs.Into.{AnswersOne, AnswersNone}

-- what a connection has under way
abbrev pub task_at : ℕ → Tasks → Option RunningQuery
task_at conn tasks = lookup (is_at (nat_cmp conn)) tasks.asked.entries

-- that of one connection is set, and the others stay
abbrev pub SetsTask : ℕ → Option RunningQuery → Tasks → Tasks → Type 0
SetsTask conn v old new = (q : ℕ) → task_at q new ≡ (if is_at (nat_cmp conn) q then v else task_at q old)

-- it is the query of the tenant at this place, on this collection, with this text
abbrev pub IsOf : RunningQuery → (place : ℕ) → (collection text : List ℕ) → Type 0
IsOf a place collection text = (a.place ≡ place) × (a.collection.items ≡ collection) × (a.query.items ≡ text)

-- the collection and the text of a query that is asked
abbrev pub query_in : wire.Asked → Option (List ℕ × List ℕ)
query_in (Query collection text) = Some (collection, text)
query_in asked = None

-- the text that is put
abbrev pub text_in : wire.Asked → Option (List ℕ)
text_in (wire.Put collection document text) = Some text
text_in (wire.PutNew collection document text) = Some text
text_in asked = None

-- it is what is asked
abbrev pub IsAsked : RunningQuery → Placed → Type 0
IsAsked a request = (a.place ≡ request.place) × (query_in (asked_of request.command) ≡ Some (a.collection.items, a.query.items))

-- each query under way is on its way to its answer from its tenant's map
abbrev pub AreOnWay : Tenancy → Tasks → Type 0
AreOnWay t tasks = (conn : ℕ) (a : RunningQuery) (m : Map) → task_at conn tasks ≡ Some a → slice_get t.maps a.place ≡ Some m → Goes a.collection.items a.query.items m a.task.value

-- ---- Readings

-- the text that a connection has read
abbrev pub reading_at : ℕ → Tasks → Option Reading
reading_at conn tasks = lookup (is_at (nat_cmp conn)) tasks.readings.entries

abbrev pub SetsReading : ℕ → Option Reading → Tasks → Tasks → Type 0
SetsReading conn v old new = (q : ℕ) → reading_at q new ≡ (if is_at (nat_cmp conn) q then v else reading_at q old)

-- nothing of the connection is under way, and that of the others stays
pub record Clears (conn : ℕ) (old new : Tasks) : Type 0 where
  pub query : SetsTask conn None old new
  pub reading : SetsReading conn None old new

-- the connection's query is under way, with less left than it had, and no text of it is read
pub record GoesOn (conn place : ℕ) (collection text : List ℕ) (old new : Tasks) : Type 0 where
  pub asked : RunningQuery
  pub sets : SetsTask conn (Some asked) old new
  pub its : IsOf asked place collection text
  pub less : (a : RunningQuery) → task_at conn old ≡ Some a → IsOf a place collection text → work_left asked.task.value < work_left a.task.value
  pub reading : SetsReading conn None old new

-- the connection's text is read on, with fewer places left than there were, and all queries stay
pub record ReadsOn (conn : ℕ) (old new : Tasks) : Type 0 where
  pub same : new.asked.entries ≡ old.asked.entries
  pub reading : Reading
  pub sets : SetsReading conn (Some reading) old new
  pub less : (r : Reading) → reading_at conn old ≡ Some r → reading.task.value.left < r.task.value.left

-- a body that may have a text to be read a share at a time
abbrev pub is_long : List ℕ → Bool
is_long body = nat_lt 65536 (length body)

abbrev pub is_of_tenant : (place : ℕ) → ℕ × Reading → Bool
is_of_tenant place e = e.1.place == place

abbrev pub is_read_for : (place : ℕ) → Tasks → Bool
is_read_for place tasks = list_any (is_of_tenant place) tasks.readings.entries

-- a text of the tenant may be read on the connection
abbrev pub may_read : (place conn : ℕ) → Tasks → Bool
may_read place conn tasks = is_some (reading_at conn tasks) || (nat_lt (length tasks.readings.entries) 4 && not (is_read_for place tasks))

-- ---- Who waits

-- the place of the tenant whose key is in a body
abbrev pub tenant_asked : Tenancy → List ℕ → Option ℕ
tenant_asked t body = if is_short body then None else place_in t.keys (key_of body)

-- a query of the tenant, which another connection asked
abbrev pub is_other : (place conn : ℕ) → ℕ × RunningQuery → Bool
is_other place conn e = not (e.0 == conn) && (e.1.place == place)

-- another connection has a query of the tenant under way
abbrev pub has_other : (place conn : ℕ) → Tasks → Bool
has_other place conn tasks = list_any (is_other place conn) tasks.asked.entries

-- a body of the tenant waits for another connection's query, or for those whose texts are read
abbrev pub is_kept : (place conn : ℕ) → List ℕ → Tasks → Bool
is_kept place conn body tasks = has_other place conn tasks || (is_long body && not (may_read place conn tasks))

abbrev pub is_held : ℕ → List ℕ → Tenancy → Tasks → Bool
is_held conn body t tasks = option_map_or (λ place. is_kept place conn body tasks) (tenant_asked t body) false

abbrev pub is_next_held : ℕ → Next → Tenancy → Tasks → Bool
is_next_held conn (next.Frame body) t tasks = is_held conn body t tasks
is_next_held conn next.Wait t tasks = false
is_next_held conn next.Fault t tasks = false

-- the first request that waits on the connection waits for another connection's query
abbrev pub is_first_held : ℕ → HubState → Tasks → Bool
is_first_held conn h tasks = option_map_or (λ f. is_next_held conn (next_of f) h.tenants tasks) (session conn h.sessions) false

-- ---- A share of work

-- the body asks a query of a tenant
pub record AsksQuery (body : List ℕ) (t : Tenancy) : Type 0 where
  pub number : ℕ
  pub key : List ℕ
  pub collection : List ℕ
  pub text : List ℕ
  pub reads : Asks number key (Query collection text) ≡ reading body
  pub place : ℕ
  pub placed : place_in t.keys key ≡ Some place

-- the body is long, and puts a text of a tenant
pub record PutsLong (body : List ℕ) (t : Tenancy) : Type 0 where
  pub long : is_long body ≡ true
  pub number : ℕ
  pub key : List ℕ
  pub asked : wire.Asked
  pub reads : Asks number key asked ≡ reading body
  pub text : List ℕ
  pub puts : text_in asked ≡ Some text
  pub place : ℕ
  pub placed : place_in t.keys key ≡ Some place

-- its charge is told
abbrev pub IsBodyCharge : Option ℕ → List ℕ → Tenancy → Type 0
IsBodyCharge None body t = Unit {0}
IsBodyCharge (Some units) body t = (a : AsksQuery body t) × (m : Map) × (slice_get t.maps a.place ≡ Some m) × IsCharge (Some units) a.collection a.text m

-- its query goes on, or the long text that it puts is read on
abbrev pub WorksOn : ℕ → List ℕ → Tenancy → (old new : Tasks) → Type 0
WorksOn conn body t old new = ((a : AsksQuery body t) × GoesOn conn a.place a.collection a.text old new) ⊎ (PutsLong body t × ReadsOn conn old new)

-- the charge is that of the first body that waits
abbrev pub IsFirstCharge : Option ℕ → Framing → Tenancy → Type 0
IsFirstCharge None f t = Unit {0}
IsFirstCharge (Some units) f t = (body : List ℕ) × (behind : List ℕ) × (front f.waiting ≡ Whole body behind) × IsBodyCharge (Some units) body t

abbrev pub WorksOnFirst : ℕ → Framing → Tenancy → (old new : Tasks) → Type 0
WorksOnFirst conn f t old new = (body : List ℕ) × (behind : List ℕ) × (front f.waiting ≡ Whole body behind) × WorksOn conn body t old new

-- and on a connection
abbrev pub IsChargeAt : Option ℕ → ℕ → HubState → Type 0
IsChargeAt None conn h = Unit {0}
IsChargeAt (Some units) conn h = (f : Framing) × (session conn h.sessions ≡ Some f) × IsFirstCharge (Some units) f h.tenants

-- What a share of work on a body leaves, whose text is not read: the step of its reply, or nothing but a query under way.
abbrev pub SharesQuery : Advance → ℕ → List ℕ → Tenancy → Tasks → List ℕ → Tenancy → Tasks → List ℕ → Type 0
SharesQuery (share.Replied charge) conn body t tasks before t' tasks' after = Serves t body before after t' × Clears conn tasks tasks' × IsBodyCharge charge body t
SharesQuery share.Working conn body t tasks before t' tasks' after = (t' ≡ t) × (after ≡ before) × ((a : AsksQuery body t) × GoesOn conn a.place a.collection a.text tasks tasks')
SharesQuery share.Idle conn body t tasks before t' tasks' after = ⊥

-- on any body
abbrev pub SharesBody : Advance → ℕ → List ℕ → Tenancy → Tasks → List ℕ → Tenancy → Tasks → List ℕ → Type 0
SharesBody (share.Replied charge) conn body t tasks before t' tasks' after = Serves t body before after t' × Clears conn tasks tasks' × IsBodyCharge charge body t
SharesBody share.Working conn body t tasks before t' tasks' after = (t' ≡ t) × (after ≡ before) × WorksOn conn body t tasks tasks'
SharesBody share.Idle conn body t tasks before t' tasks' after = ⊥

-- on what is first on a connection
abbrev pub SharesFirst : Advance → ℕ → Framing → Tenancy → Tasks → List ℕ → Framing → Tenancy → Tasks → List ℕ → Type 0
SharesFirst (share.Replied charge) conn f t tasks before f' t' tasks' after = Answered f t before f' t' after × Clears conn tasks tasks' × IsFirstCharge charge f t
SharesFirst share.Idle conn f t tasks before f' t' tasks' after = IsIdle f t before f' t' after × (tasks' ≡ tasks)
SharesFirst share.Working conn f t tasks before f' t' tasks' after = (f' ≡ f) × (t' ≡ t) × (after ≡ before) × WorksOnFirst conn f t tasks tasks'

-- on a connection of a hub, of which only a reply changes the state
abbrev pub Shares : Advance → ℕ → HubState → Tasks → List ℕ → HubState → Tasks → List ℕ → Type 0
Shares (share.Replied charge) conn old tasks before new tasks' after = AnswersOne conn old before new after × Clears conn tasks tasks' × IsChargeAt charge conn old
Shares share.Idle conn old tasks before new tasks' after = AnswersNone conn old before new after × (tasks' ≡ tasks)
Shares share.Working conn old tasks before new tasks' after = (new ≡ old) × (after ≡ before) × ((f : Framing) × (session conn old.sessions ≡ Some f) × WorksOnFirst conn f old.tenants tasks tasks')

-- no work is left
abbrev pub HasEnded : Advance → Type 0
HasEnded (share.Replied charge) = Unit {0}
HasEnded share.Idle = Unit {0}
HasEnded share.Working = ⊥

-- ---- What a share of a query spends

-- the units with which it begins: those of the connection's query where it is this one, or all
pub record BeginsWith (conn place : ℕ) (collection text : List ℕ) (old : Tasks) (left : ℕ) : Type 0 where
  pub going : (a : RunningQuery) → task_at conn old ≡ Some a → IsOf a place collection text → left ≡ units_left a.task.value
  pub anew : task_at conn old ≡ None → left ≡ budget

-- a share of the query that a body asks spends so many units and one step of it
pub record SpendsOnBody (conn : ℕ) (body : List ℕ) (t : Tenancy) (old : Tasks) (units : ℕ) (to : Progress) : Type 0 where
  pub asks : AsksQuery body t
  pub map : Map
  pub at : slice_get t.maps asks.place ≡ Some map
  pub tree : Segments
  pub valid : IsValidQuery asks.text tree
  pub left : ℕ
  pub begins : BeginsWith conn asks.place asks.collection asks.text old left
  pub spends : SpendsShare tree (documents_of asks.collection map) units left to

-- where it goes on, or its charge is told
abbrev pub SpendsQuery : Advance → (conn : ℕ) → (body : List ℕ) → Tenancy → (old new : Tasks) → (units : ℕ) → Type 0
SpendsQuery (share.Replied None) conn body t old new units = Unit {0}
SpendsQuery (share.Replied (Some charge)) conn body t old new units = SpendsOnBody conn body t old units (Complete charge)
SpendsQuery share.Idle conn body t old new units = Unit {0}
SpendsQuery share.Working conn body t old new units = (a : RunningQuery) × (task_at conn new ≡ Some a) × SpendsOnBody conn body t old units (Paused a.task.value)

-- or the long text that a body puts is read on
abbrev pub SpendsBody : Advance → (conn : ℕ) → (body : List ℕ) → Tenancy → (old new : Tasks) → (units : ℕ) → Type 0
SpendsBody (share.Replied charge) conn body t old new units = SpendsQuery (share.Replied charge) conn body t old new units
SpendsBody share.Idle conn body t old new units = Unit {0}
SpendsBody share.Working conn body t old new units = (PutsLong body t × ReadsOn conn old new) ⊎ SpendsQuery share.Working conn body t old new units

-- a share spends its units on the first body that waits
abbrev pub SpendsFirst : Advance → ℕ → Framing → Tenancy → (old new : Tasks) → (units : ℕ) → Type 0
SpendsFirst s conn f t old new units = (body behind : List ℕ) → front f.waiting ≡ Whole body behind → SpendsBody s conn body t old new units

-- and on a connection
abbrev pub SpendsAt : Advance → ℕ → HubState → (old new : Tasks) → (units : ℕ) → Type 0
SpendsAt s conn h old new units = (f : Framing) → session conn h.sessions ≡ Some f → SpendsFirst s conn f h.tenants old new units
