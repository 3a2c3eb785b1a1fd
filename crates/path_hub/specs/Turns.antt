-- A connection while it is served, in the contracts of private functions: this project's own.
use Rattle.std.specs.Prelude.{◌≡◌, ◌≢◌, ℕ, ◌+◌, ◌<◌, ◌≤◌, List, [], length, map, Option, Some, None, false}
use Rattle.wire_frames.specs.Framing.{Framing}
use Rattle.path_hub.specs.declared.wire.ConnEnd.{ConnEnd}
use Rattle.path_hub.specs.Runs.{Run}
use Rattle.path_hub.specs.Into.{sent, joined}
use Rattle.path_hub.specs.Sessions.{session, Settled}
use Rattle.path_hub.specs.HubState.{HubState}
use Rattle.path_hub.specs.Wires.{Move, Meaning, Moved, Reads, read_in, written_in}
use Rattle.path_hub.specs.Serving.{items_in, IsPaced, Ends, longest_piece}

-- all that was read is answered, and all replies are written
pub record Serving (conn : ℕ) (h : HubState) (m : Meaning) (turns : ℕ) (h' : HubState) (n : Meaning) : Type 0 where
  pub moved : List Move
  pub frames : List (List ℕ)
  pub run : Run h.tenants (items_in conn (read_in moved)) (map (sent conn) frames) h'.tenants
  pub written : written_in moved ≡ joined frames
  pub paced : IsPaced conn frames [] [] moved
  pub told : Moved m.traffic moved n.traffic
  pub framing : Framing
  pub was : session conn h'.sessions ≡ Some framing
  pub open' : framing.closed ≡ false
  pub settled : Settled (read_in moved) framing
  pub others_stay : (q : ℕ) → q ≢ conn → session q h'.sessions ≡ session q h.sessions
  pub failures : n.failures ≡ m.failures
  pub reads : n.reads ≡ m.reads + turns

-- a turn ends the connection, or another one comes
abbrev pub AfterTurn : ℕ → HubState → Meaning → ℕ → Option ConnEnd → HubState → Meaning → Type 0
AfterTurn conn h m turns None h' n = Serving conn h m (turns + 1) h' n
AfterTurn conn h m turns (Some end') h' n = Ends conn h m end' h' n

-- reads can be counted on
abbrev pub IsCounted : Meaning → ℕ → Type 0
IsCounted m turns = (turns < 1000000) × (m.reads ≤ 18446744073708551615)

-- whatever came before
abbrev pub Turns : ℕ → HubState → Meaning → Option ConnEnd → HubState → Meaning → Type 0
Turns conn h' n end' h'' n' = (h : HubState) (m : Meaning) (turns : ℕ) → IsCounted m turns → Serving conn h m turns h' n → AfterTurn conn h m turns end' h'' n'

-- a piece as it was just read
pub record IsPiece (piece : List ℕ) : Type 0 where
  pub some : 0 < length piece
  pub few : length piece ≤ longest_piece

abbrev pub PieceTurns : ℕ → List ℕ → HubState → Meaning → Option ConnEnd → HubState → Meaning → Type 0
PieceTurns conn piece h' n end' h'' n' = (k : Meaning) → Reads k piece n → (h : HubState) (m : Meaning) (turns : ℕ) → IsCounted m turns → Serving conn h m turns h' k → AfterTurn conn h m turns end' h'' n'

abbrev pub EndsTurns : ℕ → HubState → Meaning → ConnEnd → HubState → Meaning → Type 0
EndsTurns conn h' n end' h'' n' = (h : HubState) (m : Meaning) → m.reads ≤ 18446744073708551615 → Serving conn h m 0 h' n → Ends conn h m end' h'' n'

-- where another turn may come, no fault came
abbrev pub KeepsFailures : Meaning → Option ConnEnd → Meaning → Type 0
KeepsFailures n None n' = n'.failures ≡ n.failures
KeepsFailures n (Some end') n' = Unit {0}
