-- What a framer holds, and what becomes of it (this project's own framing): the bytes that wait, and whether it was closed by a fault.
use Rattle.std.specs.Prelude.{◌≡◌, ℕ, List, [], ◌++◌, Bool, true, false, IsTrue}
use Rattle.wire_frames.specs.Frames.{Front, Whole, Wait, Fault, front, is_whole}

pub record Framing : Type 0 where
  pub waiting : List ℕ
  pub closed : Bool

abbrev pub fresh : Framing
fresh = record { waiting = []; closed = false }

-- it is closed only where a fault is next
abbrev pub IsClosedByFault : List ℕ → Bool → Type 0
IsClosedByFault waiting closed = closed ≡ true → front waiting ≡ Fault

-- a piece of the stream comes to the end of what waits
abbrev pub with_piece : Framing → List ℕ → Framing
with_piece framing piece = record framing { waiting = framing.waiting ++ piece }

abbrev pub after_at : Front → Framing → Framing
after_at (Whole body more) framing = record framing { waiting = more }
after_at Wait framing = framing
after_at Fault framing = record framing { closed = true }

-- what is next has been told: a whole frame is taken off, a fault closes
abbrev pub framing_after : Framing → Framing
framing_after framing = after_at (front framing.waiting) framing

-- a whole frame is there to be taken
abbrev pub HasFrame : Framing → Type 0
HasFrame framing = IsTrue (is_whole (front framing.waiting))
