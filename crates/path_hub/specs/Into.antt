-- A piece of a connection, and the bytes of the replies to it: this project's own.
use Rattle.std.specs.Prelude.{◌≡◌, ◌<◌, ℕ, List, [], ◌++◌, length, map, Option, Some, None, Bool, true, false, Result, Ok, Err}
use Rattle.std.specs.List.{flat_map}
use Rattle.wire_frames.specs.Frames.{rest}
use Rattle.wire_frames.specs.Framing.{Framing, with_piece}
use Rattle.tenant_map.specs.Tenancy.{Tenancy}
use Rattle.path_hub.specs.declared.fault.TakeFault.{TakeFault}
use Rattle.path_hub.specs.declared.fault.TakeFault.TheVariants as take
use Rattle.path_hub.specs.declared.fault.HubFault.{HubFault}
use Rattle.path_hub.specs.declared.fault.HubFault.TheVariants as fault
use Rattle.path_hub.specs.Runs.{Sent, Run}
use Rattle.path_hub.specs.Pending.{Answered, IsDue, pending, item, IsSound}
use Rattle.path_hub.specs.Sessions.{session, Sets}
use Rattle.path_hub.specs.HubState.{HubState}

abbrev pub sent : ℕ → List ℕ → Sent
sent conn frame = record { conn = conn; frame = frame }

abbrev pub joined : List (List ℕ) → List ℕ
joined frames = flat_map (λ frame. frame) frames

-- some of what is pending is answered, in order, with these frames
pub record AnswersInto (conn : ℕ) (f : Framing) (os : Tenancy) (before : List ℕ) (f' : Framing) (os' : Tenancy) (after : List ℕ) : Type 0 where
  pub done : List (Option (List ℕ))
  pub frames : List (List ℕ)
  pub pending_is : pending f ≡ done ++ pending f'
  pub out : after ≡ before ++ joined frames
  pub run : Run os (map (item conn) done) (map (sent conn) frames) os'
  pub rest_is : rest f'.waiting ≡ rest f.waiting
  pub sound : IsSound f → IsSound f'

-- the piece is taken, and some of what is then pending is answered
pub record TakesPiece (conn : ℕ) (piece : List ℕ) (old : HubState) (before : List ℕ) (new : HubState) (after : List ℕ) (all : Bool) : Type 0 where
  pub framing : Framing
  pub was : session conn old.sessions ≡ Some framing
  pub open' : framing.closed ≡ false
  pub left : Framing
  pub sets : Sets conn (Some left) old.sessions new.sessions
  pub answers : AnswersInto conn (with_piece framing piece) old.tenants before left new.tenants after
  pub all_is : all ≡ true → pending left ≡ []

-- the connection is open, and there is something to be taken
pub record CanTake (conn : ℕ) (piece : List ℕ) (old : HubState) : Type 0 where
  pub framing : Framing
  pub was : session conn old.sessions ≡ Some framing
  pub open' : framing.closed ≡ false
  pub some : 0 < length piece

pub record IsClosed (conn : ℕ) (old : HubState) : Type 0 where
  pub framing : Framing
  pub was : session conn old.sessions ≡ Some framing
  pub closed : framing.closed ≡ true

-- the piece is taken, and nothing is answered yet
pub record IsTaken (conn : ℕ) (piece : List ℕ) (old new : HubState) : Type 0 where
  pub framing : Framing
  pub was : session conn old.sessions ≡ Some framing
  pub open' : framing.closed ≡ false
  pub sets : Sets conn (Some (with_piece framing piece)) old.sessions new.sessions
  pub tenants_stay : new.tenants ≡ old.tenants

-- What taking a piece leaves. A refusal changes nothing.
abbrev pub Takes : ℕ → List ℕ → HubState → Result (Unit {0}) TakeFault → HubState → Type 0
Takes conn piece old (Ok u) new = IsTaken conn piece old new
Takes conn piece old (Err take.NoConnection) new = (session conn old.sessions ≡ None) × (new ≡ old)
Takes conn piece old (Err take.Closed) new = IsClosed conn old × (new ≡ old)
Takes conn piece old (Err take.Memory) new = CanTake conn piece old × (new ≡ old)

-- One step: the first frame or fault that waits on the connection is taken off and answered.
pub record AnswersOne (conn : ℕ) (old : HubState) (before : List ℕ) (new : HubState) (after : List ℕ) : Type 0 where
  pub framing : Framing
  pub was : session conn old.sessions ≡ Some framing
  pub left : Framing
  pub sets : Sets conn (Some left) old.sessions new.sessions
  pub answered : Answered framing old.tenants before left new.tenants after

-- no frame is whole there, and no fault waits
pub record AnswersNone (conn : ℕ) (old : HubState) (before : List ℕ) (new : HubState) (after : List ℕ) : Type 0 where
  pub none : (framing : Framing) → session conn old.sessions ≡ Some framing → pending framing ≡ []
  pub same : new ≡ old
  pub out : after ≡ before

-- a whole frame, or a fault, waits on the connection
pub record HasDue (conn : ℕ) (h : HubState) : Type 0 where
  pub framing : Framing
  pub was : session conn h.sessions ≡ Some framing
  pub due : IsDue framing

-- What a call of the hub with a piece leaves. Memory is wanted only for a piece that has bytes, or once it is taken for what waits then. Only a piece that was taken changes anything.
abbrev pub Bytes : ℕ → List ℕ → HubState → List ℕ → Result (Unit {0}) HubFault → HubState → List ℕ → Type 0
Bytes conn piece old before (Ok u) new after = TakesPiece conn piece old before new after true
Bytes conn piece old before (Err fault.NoConnection) new after = (session conn old.sessions ≡ None) × (new ≡ old) × (after ≡ before)
Bytes conn piece old before (Err fault.Closed) new after = IsClosed conn old × (new ≡ old) × (after ≡ before)
Bytes conn piece old before (Err (fault.Memory true)) new after = TakesPiece conn piece old before new after false × HasDue conn new
Bytes conn piece old before (Err (fault.Memory false)) new after = CanTake conn piece old × (new ≡ old) × (after ≡ before)
