-- Connections served one after the other over one hub, each over a wire of its own: this project's own.
use Rattle.std.specs.Prelude.{◌≡◌, ◌<◌, ℕ, zero, suc, List, [], ◌∷◌, ◌++◌, Option, Some, None}
use Rattle.path_hub.specs.declared.wire.ConnEnd.{ConnEnd}
use Rattle.path_hub.specs.declared.wire.ConnEnd.TheVariants.{Done, ReadFault, WriteFault, FrameFault, TurnLimit, Memory}
use Rattle.path_hub.specs.HubState.{HubState}
use Rattle.path_hub.specs.Sessions.{session}
use Rattle.path_hub.specs.Serving.{ServesConnection}
use Rattle.path_hub.specs.Wires.{Meaning}
use Rattle.socket_wire.specs.Listeners.{Listening, Gives, Fails, Closes}
use Rattle.socket_wire.specs.declared.end_log.Ending.{Ending}

-- no connection is open
abbrev pub IsFree : HubState → Type 0
IsFree h = (conn : ℕ) → session conn h.sessions ≡ None

-- a log that keeps what it is told has this more
abbrev pub Tells : Option (List Ending) → Ending → Option (List Ending) → Type 0
Tells None ending new = new ≡ None
Tells (Some old) ending new = new ≡ Some (old ++ ending ∷ [])

-- it is told of every end but one
abbrev pub TellsFault : ℕ → ConnEnd → Option (List Ending) → Option (List Ending) → Type 0
TellsFault number Done old new = new ≡ old
TellsFault number ReadFault old new = Tells old (record { number = number; how = ReadFault }) new
TellsFault number WriteFault old new = Tells old (record { number = number; how = WriteFault }) new
TellsFault number FrameFault old new = Tells old (record { number = number; how = FrameFault }) new
TellsFault number TurnLimit old new = Tells old (record { number = number; how = TurnLimit }) new
TellsFault number Memory old new = Tells old (record { number = number; how = Memory }) new

-- the hub, what the listener tells and what the log was told
pub record Service : Type 0 where
  pub hub : HubState
  pub listening : Option Listening
  pub told : Option (List Ending)

abbrev pub service : HubState → Option Listening → Option (List Ending) → Service
service hub listening told = record { hub = hub; listening = listening; told = told }

-- The next connection is accepted, served from its first byte to its end, closed as serving left it, and told of.
pub record ServedOne (number : ℕ) (s t : Service) : Type 0 where
  pub accepted : Meaning
  pub given : Option Listening
  pub gives : Gives s.listening accepted given
  pub how : ConnEnd
  pub left : Meaning
  pub serves : ServesConnection number s.hub accepted how t.hub left
  pub closes : Closes given left t.listening
  pub tells : TellsFault number how s.told t.told

-- So many connections are served one after the other, numbered from 0: before the last one all the others.
abbrev pub Served : ℕ → Service → Service → Type 0
Served zero s t = t ≡ s
Served (suc n) s t = (before : Service) × Served n s before × ServedOne n before t

-- fewer are served, and then none could be accepted
pub record ServedFewer (count : ℕ) (s t : Service) : Type 0 where
  pub number : ℕ
  pub few : number < count
  pub before : Service
  pub served : Served number s before
  pub hub : t.hub ≡ before.hub
  pub fails : Fails before.listening t.listening
  pub told : t.told ≡ before.told
