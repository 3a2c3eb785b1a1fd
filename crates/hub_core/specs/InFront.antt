-- What is in front on a connection, as a loop is told it: this project's own.
use Rattle.std.specs.Prelude.{◌≡◌, ℕ, List, [], length, MatchOption, Some}
use Rattle.std.specs.Option.{option_map_or}
use Rattle.connection_turns.specs.declared.ahead.Ahead.{Ahead}
use Rattle.wire_frames.specs.Frames.{front}
use Rattle.path_hub.specs.HubState.{HubState}
use Rattle.path_hub.specs.Sessions.{session}
use Rattle.hub_core.specs.Long.{is_first_long}
use Rattle.hub_core.specs.Needs.{IsPart, IsNoPart, front_at}
use Rattle.hub_core.specs.Replies.{body_at, IsMostReply, IsMostTo}

-- the bytes that wait on a connection
abbrev pub waiting_on : ℕ → HubState → List ℕ
waiting_on conn hub = option_map_or (λ f. f.waiting) (session conn hub.sessions) []

-- How many bytes wait, of which frame only a part came, whose key it has, how long its reply may be (exactly so long if it has a text), and whether it may take long.
pub record IsAhead (conn : ℕ) (hub : HubState) (ahead : Ahead) : Type 0 where
  pub waiting : ahead.waiting ≡ length (waiting_on conn hub)
  pub part : MatchOption ahead.part (IsNoPart (waiting_on conn hub)) (IsPart hub.tenants (waiting_on conn hub))
  pub tenant : ahead.tenant ≡ front_at conn hub
  pub most : IsMostReply conn hub ahead.most_reply
  pub exact : (body : List ℕ) → body_at (front (waiting_on conn hub)) ≡ Some body → IsMostTo hub.tenants body ahead.most_reply
  pub long : ahead.is_long ≡ is_first_long conn hub
