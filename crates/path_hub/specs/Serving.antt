-- What serving a connection leaves: this project's own.
use Rattle.std.specs.Prelude.{◌≡◌, ◌≢◌, ℕ, ◌+◌, ◌≤◌, List, [], ◌∷◌, ◌++◌, length, map, Some, None, true, false}
use Rattle.wire_frames.specs.Frames.{is_broken}
use Rattle.path_hub.specs.declared.wire.ConnEnd.{ConnEnd}
use Rattle.path_hub.specs.declared.wire.ConnEnd.TheVariants.{Done, ReadFault, WriteFault, FrameFault, TurnLimit, Memory}
use Rattle.path_hub.specs.Items.{Item, items_of}
use Rattle.path_hub.specs.Runs.{Run}
use Rattle.path_hub.specs.Into.{sent, joined}
use Rattle.path_hub.specs.Sessions.{session}
use Rattle.path_hub.specs.HubState.{HubState}
use Rattle.path_hub.specs.Wires.{Move, Gave, Took, Meaning, Moved, HasEnded, read_in, written_in}

-- the most bytes of one read
abbrev pub longest_piece : ℕ
longest_piece = 65536

-- the items of a connection's first bytes
abbrev pub items_in : ℕ → List ℕ → List Item
items_in conn input = items_of conn (Some []) input

-- the bytes written are the replies to the items of the bytes read, one each, and no more
pub record IsUpTo (conn : ℕ) (frames : List (List ℕ)) (read written : List ℕ) : Type 0 where
  pub mine : List (List ℕ)
  pub later : List (List ℕ)
  pub frames_are : frames ≡ mine ++ later
  pub one_each : length mine ≡ length (items_in conn read)
  pub written_is : written ≡ joined mine

-- each read gives at most so many bytes, and comes once the replies to all that was read before are written
abbrev pub IsPaced : ℕ → List (List ℕ) → List ℕ → List ℕ → List Move → Type 0
IsPaced conn frames read written [] = Unit {0}
IsPaced conn frames read written (Gave piece ∷ moves) = IsUpTo conn frames read written × (length piece ≤ longest_piece) × IsPaced conn frames (read ++ piece) written moves
IsPaced conn frames read written (Took piece ∷ moves) = IsPaced conn frames read (written ++ piece) moves

-- what each end says of the failures and reads
abbrev pub EndsCounts : ConnEnd → Meaning → Meaning → Type 0
EndsCounts Done m n = n.failures ≡ m.failures
EndsCounts ReadFault m n = n.failures ≡ m.failures + 1
EndsCounts WriteFault m n = n.failures ≡ m.failures + 1
EndsCounts FrameFault m n = n.failures ≡ m.failures
EndsCounts TurnLimit m n = (n.failures ≡ m.failures) × (n.reads ≡ m.reads + 1000000)
EndsCounts Memory m n = m.failures ≤ n.failures

-- of the bytes read, the items that got no reply, and the replies' bytes that were not written
abbrev pub EndsItems : ConnEnd → List ℕ → List Item → List ℕ → Meaning → Meaning → Type 0
EndsItems Done input others unsent m n = (is_broken input ≡ false) × (others ≡ []) × (unsent ≡ []) × HasEnded n.traffic
EndsItems ReadFault input others unsent m n = (is_broken input ≡ false) × (others ≡ []) × (unsent ≡ [])
EndsItems WriteFault input others unsent m n = others ≡ []
EndsItems FrameFault input others unsent m n = (is_broken input ≡ true) × (others ≡ []) × (unsent ≡ [])
EndsItems TurnLimit input others unsent m n = (is_broken input ≡ false) × (others ≡ []) × (unsent ≡ [])
EndsItems Memory input others unsent m n = n.failures ≡ m.failures → unsent ≡ []

-- The bytes read are answered from the tenants that there were, and the replies are written, as far as the end says.
pub record Ends (conn : ℕ) (h : HubState) (m : Meaning) (end' : ConnEnd) (h' : HubState) (n : Meaning) : Type 0 where
  pub moved : List Move
  pub first : List Item
  pub others : List Item
  pub items_are : items_in conn (read_in moved) ≡ first ++ others
  pub frames : List (List ℕ)
  pub run : Run h.tenants first (map (sent conn) frames) h'.tenants
  pub unsent : List ℕ
  pub replies_are : joined frames ≡ written_in moved ++ unsent
  pub paced : IsPaced conn frames [] [] moved
  pub told : Moved m.traffic moved n.traffic
  pub others_stay : (q : ℕ) → q ≢ conn → session q h'.sessions ≡ session q h.sessions
  pub few_reads : n.reads ≤ m.reads + 1000000
  pub counts : EndsCounts end' m n
  pub items_end : EndsItems end' (read_in moved) others unsent m n

-- and the connection is free
pub record ServesConnection (conn : ℕ) (h : HubState) (m : Meaning) (end' : ConnEnd) (h' : HubState) (n : Meaning) : Type 0 where
  pub free : session conn h'.sessions ≡ None
  pub ends : Ends conn h m end' h' n
