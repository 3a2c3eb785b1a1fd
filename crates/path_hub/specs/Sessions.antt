-- What a hub keeps of each connection, against the connection's whole stream: this project's own.
use Rattle.std.specs.Prelude.{◌≡◌, ◌≢◌, ◌⊎◌, ℕ, ◌<◌, List, [], ◌++◌, length, map, Option, Some, None, false, ◌==◌, if◌then◌else◌}
use Rattle.std.specs.Option.{option_map}
use Rattle.std.specs.Ordering.{nat_cmp}
use Rattle.std.specs.Map.{lookup}
use Rattle.std.specs.BTreeMap.{is_at}
use Rattle.wire_frames.specs.Frames.{rest, is_broken}
use Rattle.wire_frames.specs.Framing.{Framing, fresh}
use Rattle.tenant_map.specs.Tenancy.{Tenancy}
use Rattle.path_hub.specs.declared.event.Event.{Event}
use Rattle.path_hub.specs.declared.event.Event.TheVariants.{Connect, Bytes, Disconnect}
use Rattle.path_hub.specs.declared.event.Reply.{Reply}
use Rattle.path_hub.specs.Items.{Item, Streams, after_event, items_at, items_of}
use Rattle.path_hub.specs.Runs.{Run}
use Rattle.path_hub.specs.Pending.{IsSound, told}

abbrev pub Sessions : Type 0
Sessions = List (ℕ × Framing)

abbrev pub session : ℕ → Sessions → Option Framing
session conn ss = lookup (is_at (nat_cmp conn)) ss

-- all of the stream that is whole is answered
pub record Settled (stream : List ℕ) (f : Framing) : Type 0 where
  pub closed : f.closed ≡ is_broken stream
  pub waiting : is_broken stream ≡ false → f.waiting ≡ rest stream
  pub sound : IsSound f

abbrev pub AgreeAt : Option (List ℕ) → Option Framing → Type 0
AgreeAt None None = Unit {0}
AgreeAt None (Some f) = ⊥
AgreeAt (Some stream) None = ⊥
AgreeAt (Some stream) (Some f) = Settled stream f

pub record Agree (s : Streams) (ss : Sessions) : Type 0 where
  pub at : (conn : ℕ) → AgreeAt (s conn) (session conn ss)

-- replies to these items, after those that are there
pub record Replies (os : Tenancy) (before : List Reply) (items : List Item) (os' : Tenancy) (after : List Reply) : Type 0 where
  pub replies : List Reply
  pub out : after ≡ before ++ replies
  pub run : Run os items (map told replies) os'

-- Memory may be wanted for a session that is opened, for a piece that has bytes, before any reply to it, and for what waits to be answered.
abbrev pub PieceWants : List ℕ → (first others : List Item) → Type 0
PieceWants piece first others = (others ≢ []) ⊎ ((first ≡ []) × (0 < length piece))

abbrev pub EventWants : Event → Streams → (first others : List Item) → Type 0
EventWants (Connect c) s first others = s c ≡ None
EventWants (Bytes c piece) s first others = PieceWants piece.items first others
EventWants (Disconnect c) s first others = ⊥

-- replies to the first of these items, where this holds of them and the others
pub record RepliesToSome (os : Tenancy) (before : List Reply) (items : List Item) (wants : List Item → List Item → Type 0) (os' : Tenancy) (after : List Reply) : Type 0 where
  pub first : List Item
  pub others : List Item
  pub items_are : items ≡ first ++ others
  pub told_first : Replies os before first os' after
  pub wanted : wants first others

-- an event is applied
abbrev pub Applies : Event → Sessions → Tenancy → List Reply → Sessions → Tenancy → List Reply → Type 0
Applies event ss os before ss' os' after = (s : Streams) → Agree s ss → Agree (after_event event s) ss' × Replies os before (items_at event s) os' after

abbrev pub AppliesSome : Event → Sessions → Tenancy → List Reply → Tenancy → List Reply → Type 0
AppliesSome event ss os before os' after = (s : Streams) → Agree s ss → RepliesToSome os before (items_at event s) (EventWants event s) os' after

-- after a piece of a connection
abbrev pub after_piece : ℕ → List ℕ → Streams → Streams
after_piece conn piece s q = if q == conn then option_map (λ stream. stream ++ piece) (s conn) else s q

abbrev pub Feeds : ℕ → List ℕ → Sessions → Tenancy → List Reply → Sessions → Tenancy → List Reply → Type 0
Feeds conn piece ss os before ss' os' after = (s : Streams) → Agree s ss → Agree (after_piece conn piece s) ss' × Replies os before (items_of conn (s conn) piece) os' after

abbrev pub FeedsSome : ℕ → List ℕ → Sessions → Tenancy → List Reply → Tenancy → List Reply → Type 0
FeedsSome conn piece ss os before os' after = (s : Streams) → Agree s ss → RepliesToSome os before (items_of conn (s conn) piece) (PieceWants piece) os' after

-- a session is set, and the others stay
abbrev pub Sets : ℕ → Option Framing → Sessions → Sessions → Type 0
Sets conn v ss ss' = (q : ℕ) → session q ss' ≡ (if is_at (nat_cmp conn) q then v else session q ss)

abbrev pub opened_session : Option Framing → Option Framing
opened_session None = Some fresh
opened_session (Some f) = Some f
