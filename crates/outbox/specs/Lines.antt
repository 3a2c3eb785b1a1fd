-- What one connection is owed, and what happens to it: this project's own.
use Rattle.std.specs.Prelude.{ℕ, ◌≤◌, List, [], ◌∷◌, ◌++◌, length, take, drop, nat_lt, Bool, true, false, not, ◌&&◌, if◌then◌else◌}
use Rattle.outbox.specs.declared.stage.Stage.{Stage}
use Rattle.outbox.specs.declared.stage.Stage.TheVariants.{Open, Ending, Broken}

-- bytes owed from which on a connection is not read
abbrev pub cap : ℕ
cap = 262144

pub record Line : Type 0 where
  pub owed : List ℕ
  pub stage : Stage

abbrev pub fresh : Line
fresh = record { owed = []; stage = Open }

-- a piece was read, and taken or not; a request was answered so; the peer's side has room for so many bytes; no piece comes any more; a fault;
-- a share of work on a request was done
pub data Event : Type 0 where
  Readable : (piece : List ℕ) → Event
  Declined : (piece : List ℕ) → Event
  Answered : (reply : List ℕ) → Event
  Writable : (room : ℕ) → Event
  Ends : Event
  Fails : Event
  Worked : Event

abbrev pub is_open : Stage → Bool
is_open Open = true
is_open Ending = false
is_open Broken = false

abbrev pub ended : Stage → Stage
ended Open = Ending
ended Ending = Ending
ended Broken = Broken

-- whether it is read and answered: it is open, and owed less than the cap
abbrev pub reads : Line → Bool
reads line = is_open line.stage && nat_lt (length line.owed) cap

-- whether there is something to write
abbrev pub owes : Line → Bool
owes line = nat_lt 0 (length line.owed)

-- whether nothing is read or written any more
abbrev pub is_over : Line → Bool
is_over line = not (is_open line.stage) && not (owes line)

-- what is left of it; a piece that was not taken is the last
abbrev pub after : Line → Event → Line
after line (Readable piece) = line
after line (Declined piece) = record line { stage = ended line.stage }
after line (Answered reply) = if reads line then record line { owed = line.owed ++ reply } else line
after line (Writable room) = record line { owed = drop room line.owed }
after line Ends = record line { stage = ended line.stage }
after line Fails = record { owed = []; stage = Broken }
after line Worked = line

-- what was read, what of it was taken, what that is answered, what goes out, and what a fault throws away
abbrev pub read_at : Line → Event → List ℕ
read_at line (Readable piece) = if reads line then piece else []
read_at line (Declined piece) = if reads line then piece else []
read_at line (Answered reply) = []
read_at line (Writable room) = []
read_at line Ends = []
read_at line Fails = []
read_at line Worked = []

abbrev pub taken_at : Line → Event → List ℕ
taken_at line (Readable piece) = if reads line then piece else []
taken_at line (Declined piece) = []
taken_at line (Answered reply) = []
taken_at line (Writable room) = []
taken_at line Ends = []
taken_at line Fails = []
taken_at line Worked = []

abbrev pub replied_at : Line → Event → List ℕ
replied_at line (Readable piece) = []
replied_at line (Declined piece) = []
replied_at line (Answered reply) = if reads line then reply else []
replied_at line (Writable room) = []
replied_at line Ends = []
replied_at line Fails = []
replied_at line Worked = []

abbrev pub sent_at : Line → Event → List ℕ
sent_at line (Readable piece) = []
sent_at line (Declined piece) = []
sent_at line (Answered reply) = []
sent_at line (Writable room) = take room line.owed
sent_at line Ends = []
sent_at line Fails = []
sent_at line Worked = []

abbrev pub lost_at : Line → Event → List ℕ
lost_at line (Readable piece) = []
lost_at line (Declined piece) = []
lost_at line (Answered reply) = []
lost_at line (Writable room) = []
lost_at line Ends = []
lost_at line Fails = line.owed
lost_at line Worked = []

-- a line behind all events
abbrev pub run : Line → List Event → Line
run line [] = line
run line (e ∷ es) = run (after line e) es

abbrev pub gathered : (Line → Event → List ℕ) → Line → List Event → List ℕ
gathered at line [] = []
gathered at line (e ∷ es) = at line e ++ gathered at (after line e) es

abbrev pub read : Line → List Event → List ℕ
read = gathered read_at

abbrev pub taken : Line → List Event → List ℕ
taken = gathered taken_at

abbrev pub replied : Line → List Event → List ℕ
replied = gathered replied_at

abbrev pub sent : Line → List Event → List ℕ
sent = gathered sent_at

abbrev pub lost : Line → List Event → List ℕ
lost = gathered lost_at

-- a reply has at most so many bytes
abbrev pub is_short : ℕ → Event → Type 0
is_short most (Readable piece) = Unit {0}
is_short most (Declined piece) = Unit {0}
is_short most (Answered reply) = length reply ≤ most
is_short most (Writable room) = Unit {0}
is_short most Ends = Unit {0}
is_short most Fails = Unit {0}
is_short most Worked = Unit {0}

-- no fault
abbrev pub is_sound : Event → Type 0
is_sound (Readable piece) = Unit {0}
is_sound (Declined piece) = Unit {0}
is_sound (Answered reply) = Unit {0}
is_sound (Writable room) = Unit {0}
is_sound Ends = Unit {0}
is_sound Fails = ⊥
is_sound Worked = Unit {0}
