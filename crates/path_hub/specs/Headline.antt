-- The headline: what a run of events gives (this project's own). However the connections' bytes are cut and interleaved, and whatever other tenants send, a tenant's replies, those that memory ran out for aside, are those that its own requests get from a plain map of its texts.
use Rattle.std.specs.Prelude.{◌≡◌, ◌≢◌, ◌⊎◌, ℕ, List, [], ◌∷◌, ◌++◌, map, Contains, Result, Ok, Err}
use Rattle.tenant_map.specs.Tenancy.{Tenancy, AcceptsKeys, RefusesKeys}
use Rattle.tenant_map.specs.declared.tenants.TenantsFault.{TenantsFault}
use Rattle.tenant_map.specs.declared.tenants.TenantsFault.TheVariants as refusal
use Rattle.path_hub.specs.declared.event.Event.{Event}
use Rattle.path_hub.specs.declared.event.Reply.{Reply}
use Rattle.path_hub.specs.declared.fault.RunFault.{RunFault}
use Rattle.path_hub.specs.declared.fault.RunFault.TheVariants as fault
use Rattle.request_replies.specs.Answers.{Alone}
use Rattle.request_replies.specs.Tenants.{fresh}
use Rattle.path_hub.specs.Items.{Item, items, items_at, no_streams, streams_after}
use Rattle.path_hub.specs.Runs.{Sent, Run, own_requests, own_replies}
use Rattle.path_hub.specs.Pending.{told}
use Rattle.path_hub.specs.Sessions.{EventWants}

-- Each tenant's replies, those that memory ran out aside, are byte for byte those that its own requests get from a plain map.
abbrev pub IsIsolated : List (List ℕ) → List Item → List Sent → Type 0
IsIsolated keys is ts = (key : List ℕ) → Contains keys key → Alone [] (own_requests key is ts) (own_replies key is ts)

-- one reply for each of these items, in order and on the item's connection
pub record Replied (keys : List (List ℕ)) (is : List Item) (before after : List Reply) : Type 0 where
  pub replies : List Reply
  pub out : after ≡ before ++ replies
  pub last : Tenancy
  pub run : Run (fresh keys) is (map told replies) last
  pub isolated : IsIsolated keys is (map told replies)

-- the events up to one that wants memory are replied to, and the first items of that one
pub record StopsAt (keys : List (List ℕ)) (events : List Event) (before after : List Reply) : Type 0 where
  pub done : List Event
  pub event : Event
  pub later : List Event
  pub events_are : events ≡ done ++ event ∷ later
  pub first : List Item
  pub others : List Item
  pub items_are : items_at event (streams_after no_streams done) ≡ first ++ others
  pub told_first : Replied keys (items done ++ first) before after
  pub wanted : EventWants event (streams_after no_streams done) first others

-- keys are refused with this, which is not want of memory
abbrev pub AreRefused : List (List ℕ) → TenantsFault → Type 0
AreRefused keys e = RefusesKeys keys e × (e ≢ refusal.Memory)

-- All items are replied to; or memory runs out, for the keys, and then there is no reply, or at an event that wants it, and then the first items are replied to; keys that are refused get no reply.
abbrev pub Runs : List (List ℕ) → List Event → List Reply → Result (Unit {0}) RunFault → List Reply → Type 0
Runs keys events before (Ok u) after = AcceptsKeys keys (fresh keys) × Replied keys (items events) before after
Runs keys events before (Err fault.Memory) after = (RefusesKeys keys refusal.Memory × (after ≡ before)) ⊎ (AcceptsKeys keys (fresh keys) × StopsAt keys events before after)
Runs keys events before (Err (fault.Keys e)) after = AreRefused keys e × (after ≡ before)
