-- The replies to a piece, written while they are gathered, in the contracts of private functions: this project's own.
use Rattle.std.specs.Prelude.{ℕ, List, [], ◌++◌, Bool, false, Result}
use Rattle.path_hub.specs.declared.fault.HubFault.{HubFault}
use Rattle.path_hub.specs.HubState.{HubState}
use Rattle.path_hub.specs.Into.{Bytes, TakesPiece}
use Rattle.path_hub.specs.Wires.{Meaning, WritesAll}

-- what a call of the hub with the piece leaves, and of its replies what is written
pub record Sends (conn : ℕ) (piece : List ℕ) (h : HubState) (m : Meaning) (answered : Result (Unit {0}) HubFault) (written : Bool) (h' : HubState) (n : Meaning) : Type 0 where
  pub bytes : List ℕ
  pub answers : Bytes conn piece h [] answered h' bytes
  pub writes : WritesAll m bytes written n

-- whatever was written before, these bytes are written too, or a write failed
abbrev pub SendsMore : Meaning → Bool → List ℕ → Bool → Meaning → Type 0
SendsMore n before bytes after k = (m : Meaning) (sent : List ℕ) → WritesAll m sent before n → WritesAll m (sent ++ bytes) after k

-- so far: some of what the piece makes whole is answered, and of the replies all but the last bytes went to the wire
pub record Sending (conn : ℕ) (piece : List ℕ) (h : HubState) (m : Meaning) (written : Bool) (gathered : List ℕ) (h' : HubState) (n : Meaning) : Type 0 where
  pub sent : List ℕ
  pub answers : TakesPiece conn piece h [] h' (sent ++ gathered) false
  pub writes : WritesAll m sent written n
