-- One request sent and the reply to it read, in the contracts of private functions: this project's own.
use Rattle.std.specs.Prelude.{◌≡◌, ◌⊎◌, ◌+◌, ◌<◌, ◌≤◌, ℕ, List, [], ◌++◌, length, take, map, Result, Ok, Err}
use Rattle.std.specs.Int.{w32, to_be_bytes}
use Rattle.store_names.specs.Lengths.{longest_reply}
use Rattle.wire_frames.specs.Frames.{frame, body_length}
use Rattle.path_hub.specs.Into.{joined}
use Rattle.path_hub.specs.Wires.{Gave, Took, Meaning, Moved, HasEnded}
use Rattle.path_server.specs.Calls.{HoldsNoReply, IsReadFault}
use Rattle.path_server.specs.declared.call_fault.CallFault.{CallFault}
use Rattle.path_server.specs.declared.call_fault.CallFault.TheVariants.{TooLong, BadLine, ReadFault, WriteFault, Memory}

-- the length of the body that the first four bytes spell
pub record SpellsLength (bytes : List ℕ) (n : ℕ) : Type 0 where
  pub length_is : n ≡ body_length bytes
  pub head : to_be_bytes w32 n ≡ take 4 bytes

-- a read failed, or the input was at its end
abbrev pub IsCutShort : Meaning → Meaning → Type 0
IsCutShort m n = (n.failures ≡ m.failures + 1) ⊎ ((n.failures ≡ m.failures) × HasEnded n.traffic)

-- of the bytes that were to be read, these came; those that stood there and all that came are kept but at a fault
abbrev pub EndsReading : ℕ → List ℕ → List ℕ → Result (Unit {0}) CallFault → Meaning → Meaning → List ℕ → Type 0
EndsReading count old came (Ok u) m n new = (length came ≡ count) × (new ≡ old ++ came) × (n.failures ≡ m.failures)
EndsReading count old came (Err TooLong) m n new = ⊥
EndsReading count old came (Err (BadLine number)) m n new = ⊥
EndsReading count old came (Err ReadFault) m n new = (length came < count) × IsCutShort m n
EndsReading count old came (Err WriteFault) m n new = ⊥
EndsReading count old came (Err Memory) m n new = (length came ≤ count) × (n.failures ≡ m.failures)

pub record ReadsBytes (count : ℕ) (m : Meaning) (old : List ℕ) (end' : Result (Unit {0}) CallFault) (n : Meaning) (new : List ℕ) : Type 0 where
  pub chunks : List (List ℕ)
  pub told : Moved m.traffic (map Gave chunks) n.traffic
  pub ends : EndsReading count old (joined chunks) end' m n new

-- a whole reply
pub record IsReply (bytes : List ℕ) : Type 0 where
  pub body : List ℕ
  pub short : length body ≤ longest_reply
  pub framed : bytes ≡ frame body

abbrev pub EndsReply : List ℕ → Result (Unit {0}) CallFault → Meaning → Meaning → List ℕ → Type 0
EndsReply came (Ok u) m n reply = IsReply came × (reply ≡ came) × (n.failures ≡ m.failures)
EndsReply came (Err TooLong) m n reply = ⊥
EndsReply came (Err (BadLine number)) m n reply = ⊥
EndsReply came (Err ReadFault) m n reply = HoldsNoReply came × IsReadFault came m n
EndsReply came (Err WriteFault) m n reply = ⊥
EndsReply came (Err Memory) m n reply = (HoldsNoReply came ⊎ IsReply came) × (n.failures ≡ m.failures)

pub record ReadsReply (m : Meaning) (end' : Result (Unit {0}) CallFault) (n : Meaning) (reply : List ℕ) : Type 0 where
  pub chunks : List (List ℕ)
  pub told : Moved m.traffic (map Gave chunks) n.traffic
  pub ends : EndsReply (joined chunks) end' m n reply

abbrev pub EndsExchange : (unsent : List ℕ) (chunks : List (List ℕ)) → Result (Unit {0}) CallFault → Meaning → Meaning → List ℕ → Type 0
EndsExchange unsent chunks (Ok u) m n reply = (unsent ≡ []) × IsReply (joined chunks) × (reply ≡ joined chunks) × (n.failures ≡ m.failures)
EndsExchange unsent chunks (Err TooLong) m n reply = ⊥
EndsExchange unsent chunks (Err (BadLine number)) m n reply = ⊥
EndsExchange unsent chunks (Err ReadFault) m n reply = (unsent ≡ []) × HoldsNoReply (joined chunks) × IsReadFault (joined chunks) m n
EndsExchange unsent chunks (Err WriteFault) m n reply = (chunks ≡ []) × (n.failures ≡ m.failures + 1)
EndsExchange unsent chunks (Err Memory) m n reply = (unsent ≡ []) × (HoldsNoReply (joined chunks) ⊎ IsReply (joined chunks)) × (n.failures ≡ m.failures)

pub record Exchanges (request : List ℕ) (m : Meaning) (end' : Result (Unit {0}) CallFault) (n : Meaning) (reply : List ℕ) : Type 0 where
  pub pieces : List (List ℕ)
  pub chunks : List (List ℕ)
  pub unsent : List ℕ
  pub sent : request ≡ joined pieces ++ unsent
  pub told : Moved m.traffic (map Took pieces ++ map Gave chunks) n.traffic
  pub ends : EndsExchange unsent chunks end' m n reply
