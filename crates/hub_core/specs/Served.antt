-- What any order of turns comes to: this project's own.
use Rattle.std.specs.Prelude.{◌≡◌, ℕ, List, ◌∷◌, ◌++◌, length, map, Option, Some}
use Rattle.wire_frames.specs.Framing.{fresh as fresh_framing}
use Rattle.outbox.specs.Lines.{Line, Event, fresh, run, read, sent, lost}
use Rattle.tenant_map.specs.Maps.{Map}
use Rattle.path_hub.specs.HubState.{HubState}
use Rattle.path_hub.specs.Items.{Item}
use Rattle.path_hub.specs.Runs.{Sent, Run, own_requests, own_replies}
use Rattle.request_replies.specs.Answers.{Alone}
use Rattle.request_replies.specs.Tenants.{map_of}
use Rattle.path_hub.specs.Pending.{item}
use Rattle.path_hub.specs.Into.{joined}
use Rattle.path_hub.specs.Serving.{items_in}
use Rattle.path_hub.specs.Sessions.{session}
use Rattle.hub_core.specs.Acts.{Act, Opened, AllHappen, told_in, events_of, bodies_of, frames_of, IsKept}

-- Of one connection: its requests that were answered are the first in the bytes read, and what was written, lost at a fault and is owed is the replies.
pub record IsServed (q : ℕ) (items : List Item) (replies : List Sent) (events : List Event) : Type 0 where
  pub waiting : List (Option (List ℕ))
  pub first : items_in q (read fresh events) ≡ map (item q) (bodies_of q items ++ waiting)
  pub bytes : sent fresh events ++ lost fresh events ++ (run fresh events).owed ≡ joined (frames_of q replies)

-- The requests that were answered while a connection was open, among all: as many as there were replies before are ahead of them, and as many as there were meanwhile are its own time's.
pub record SessionIn (q : ℕ) (items : List Item) (before mid : List Act) : Type 0 where
  pub ahead : List Item
  pub own : List Item
  pub rest : List Item
  pub items_are : items ≡ ahead ++ own ++ rest
  pub ahead_told : length ahead ≡ length (told_in before)
  pub own_told : length own ≡ length (told_in mid)
  pub served : IsServed q own (told_in mid) (events_of q mid)

-- Of all: the requests in the order in which their replies were complete, each connection that was opened before and stays so, each from where it is opened on, and each tenant.
pub record Serves (lines : ℕ → Line) (old : HubState) (acts : List Act) (new : HubState) : Type 0 where
  pub items : List Item
  pub runs : Run old.tenants items (told_in acts) new.tenants
  pub each : (q : ℕ) → lines q ≡ fresh → session q old.sessions ≡ Some fresh_framing → IsKept q acts → IsServed q items (told_in acts) (events_of q acts)
  pub sessions : (q : ℕ) (before mid behind : List Act) → acts ≡ before ++ (Opened q ∷ mid ++ behind) → IsKept q mid → SessionIn q items before mid
  pub apart : (key : List ℕ) (m : Map) → map_of key old.tenants ≡ Some m → Alone m (own_requests key items (told_in acts)) (own_replies key items (told_in acts))

abbrev pub TurnsAreServed : Type 0
TurnsAreServed = (lines : ℕ → Line) (acts : List Act) (old new : HubState) → AllHappen lines acts old new → Serves lines old acts new
