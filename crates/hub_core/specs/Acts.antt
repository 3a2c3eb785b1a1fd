-- What happens at many connections over one hub: this project's own.
use Rattle.std.specs.Prelude.{◌≡◌, ◌≢◌, ℕ, ◌==◌, List, [], ◌∷◌, ◌++◌, map, Option, if◌then◌else◌}
use Rattle.std.specs.List.{AllByRecursion}
use Rattle.outbox.specs.Lines.{Line, Event, Readable, Declined, Answered, Writable, Ends, Fails, Worked, fresh, run}
use Rattle.outbox.specs.Turns.{DoesAll}
use Rattle.path_hub.specs.HubState.{HubState}
use Rattle.path_hub.specs.Items.{Item}
use Rattle.path_hub.specs.Runs.{Sent}
use Rattle.path_hub.specs.Into.{sent}
use Rattle.hub_core.specs.Answering.{Opens, Closes, takes, Answers}

-- a connection is opened, a turn at it does these events, it is closed, what comes on a closed one is thrown away
pub data Act : Type 0 where
  Opened : (conn : ℕ) → Act
  Turned : (conn : ℕ) → (events : List Event) → Act
  Closed : (conn : ℕ) → Act
  Drained : (conn : ℕ) → Act

-- each connection's line; that of one that is opened is fresh
abbrev pub changed : (ℕ → Line) → ℕ → Line → ℕ → Line
changed lines conn line q = if q == conn then line else lines q

abbrev pub lines_after : (ℕ → Line) → Act → ℕ → Line
lines_after lines (Opened conn) = changed lines conn fresh
lines_after lines (Turned conn events) = changed lines conn (run (lines conn) events)
lines_after lines (Closed conn) = lines
lines_after lines (Drained conn) = lines

abbrev pub all_lines_after : (ℕ → Line) → List Act → ℕ → Line
all_lines_after lines [] = lines
all_lines_after lines (act ∷ acts) = all_lines_after (lines_after lines act) acts

-- what an act does to the hub
abbrev pub Happens : (ℕ → Line) → Act → HubState → HubState → Type 0
Happens lines (Opened conn) old new = Opens conn old new
Happens lines (Turned conn events) old new = DoesAll (takes conn) (Answers conn) (lines conn) events old new
Happens lines (Closed conn) old new = Closes conn old new
Happens lines (Drained conn) old new = new ≡ old

abbrev pub AllHappen : (ℕ → Line) → List Act → HubState → HubState → Type 0
AllHappen lines [] old new = new ≡ old
AllHappen lines (act ∷ acts) old new = (mid : HubState) × Happens lines act old mid × AllHappen (lines_after lines act) acts mid new

-- the replies among events, and among acts with their connections, in the order in which they were complete
abbrev pub replies_in : List Event → List (List ℕ)
replies_in [] = []
replies_in (Readable piece ∷ events) = replies_in events
replies_in (Declined piece ∷ events) = replies_in events
replies_in (Answered reply ∷ events) = reply ∷ replies_in events
replies_in (Writable room ∷ events) = replies_in events
replies_in (Ends ∷ events) = replies_in events
replies_in (Fails ∷ events) = replies_in events
replies_in (Worked ∷ events) = replies_in events

abbrev pub told_at : Act → List Sent
told_at (Opened conn) = []
told_at (Turned conn events) = map (sent conn) (replies_in events)
told_at (Closed conn) = []
told_at (Drained conn) = []

abbrev pub told_in : List Act → List Sent
told_in [] = []
told_in (act ∷ acts) = told_at act ++ told_in acts

-- a connection's own events, requests and replies
abbrev pub events_at : ℕ → Act → List Event
events_at q (Opened conn) = []
events_at q (Turned conn events) = if q == conn then events else []
events_at q (Closed conn) = []
events_at q (Drained conn) = []

abbrev pub events_of : ℕ → List Act → List Event
events_of q [] = []
events_of q (act ∷ acts) = events_at q act ++ events_of q acts

abbrev pub bodies_of : ℕ → List Item → List (Option (List ℕ))
bodies_of q [] = []
bodies_of q (i ∷ is) = if q == i.conn then i.body ∷ bodies_of q is else bodies_of q is

abbrev pub frames_of : ℕ → List Sent → List (List ℕ)
frames_of q [] = []
frames_of q (t ∷ ts) = if q == t.conn then t.frame ∷ frames_of q ts else frames_of q ts

-- the connection is neither opened nor closed, and so not drained
abbrev pub IsKeptAt : ℕ → Act → Type 0
IsKeptAt q (Opened conn) = q ≢ conn
IsKeptAt q (Turned conn events) = Unit {0}
IsKeptAt q (Closed conn) = q ≢ conn
IsKeptAt q (Drained conn) = q ≢ conn

abbrev pub IsKept : ℕ → List Act → Type 0
IsKept q acts = AllByRecursion (IsKeptAt q) acts
