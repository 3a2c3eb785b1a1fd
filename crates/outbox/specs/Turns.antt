-- What a turn at a connection does: to its line, to the wire, to the core that answers, and to what is known of all three. This project's own.
use Rattle.std.specs.Prelude.{◌≡◌, ◌⊎◌, ℕ, ◌+◌, ◌<◌, ◌≤◌, List, [], ◌∷◌, length, take, nat_lt, Option, Bool, true, false, not, ◌&&◌, ◌||◌}
use Rattle.std.specs.Bool.{MatchBool}
use Rattle.outbox.specs.declared.readiness.Readiness.{Readiness}
use Rattle.outbox.specs.Appends.{KeepsWork, IsLess}
use Rattle.outbox.specs.Lines.{Line, Event, Readable, Declined, Answered, Writable, Ends, Fails, Worked, after, run, read, sent, reads, owes, is_open}
use Rattle.outbox.specs.Traffic.{Traffic, moved, with_written}

-- the core took this piece, which was read, or answered so
abbrev pub DoesAt : {C : Type 0} → (C → List ℕ → C → Type 0) → (C → List ℕ → C → Type 0) → Line → Event → C → C → Type 0
DoesAt takes answers line (Readable piece) old new = (reads line ≡ true) × takes old piece new
DoesAt takes answers line (Declined piece) old new = (reads line ≡ true) × (new ≡ old)
DoesAt takes answers line (Answered reply) old new = (reads line ≡ true) × answers old reply new
DoesAt takes answers line (Writable room) old new = new ≡ old
DoesAt takes answers line Ends old new = new ≡ old
DoesAt takes answers line Fails old new = new ≡ old
DoesAt takes answers line Worked old new = new ≡ old

abbrev pub DoesAll : {C : Type 0} → (C → List ℕ → C → Type 0) → (C → List ℕ → C → Type 0) → Line → List Event → C → C → Type 0
DoesAll takes answers line [] old new = new ≡ old
DoesAll {C} takes answers line (e ∷ es) old new = (mid : C) × DoesAt takes answers line e old mid × DoesAll takes answers (after line e) es mid new

-- bytes are read or written, a request is answered or worked on, or the line comes nearer to its end
abbrev pub moves_at : Line → Event → Bool
moves_at line (Readable piece) = nat_lt 0 (length piece)
moves_at line (Declined piece) = is_open line.stage
moves_at line (Answered reply) = true
moves_at line (Writable room) = nat_lt 0 room && owes line
moves_at line Ends = is_open line.stage
moves_at line Fails = is_open line.stage || owes line
moves_at line Worked = true

abbrev pub moves : Line → List Event → Bool
moves line [] = false
moves line (e ∷ es) = moves_at line e || moves (after line e) es

-- what may be done without a wait: a write, a read, which is not done where a request waits, an answer, an answer or a write, any of them
abbrev pub can_write : Readiness → Line → Bool
can_write ready line = ready.writable && owes line

abbrev pub can_read : Readiness → Line → Bool
can_read ready line = (ready.readable && not ready.waiting) && reads line

abbrev pub can_answer : Readiness → Line → Bool
can_answer ready line = ready.waiting && reads line

abbrev pub can_reply : Readiness → Line → Bool
can_reply ready line = can_answer ready line || can_write ready line

abbrev pub can_go_on : Readiness → Line → Bool
can_go_on ready line = (ready.readable || ready.waiting) && reads line || can_write ready line

-- something that might have been done turned out to want a wait
abbrev pub HasFallen : Readiness → Readiness → Type 0
HasFallen old new = ((old.readable ≡ true) × (new.readable ≡ false)) ⊎ (((old.writable ≡ true) × (new.writable ≡ false)) ⊎ ((old.waiting ≡ true) × (new.waiting ≡ false)))

-- nothing may be done now that might not be before
pub record HasNotRisen (old new : Readiness) : Type 0 where
  pub readable : old.readable ≡ false → new.readable ≡ false
  pub writable : old.writable ≡ false → new.writable ≡ false
  pub waiting : old.waiting ≡ false → new.waiting ≡ false

-- all of it at one moment, and what the core has under way for the connection
pub record Moment (C : Type 0) : Type 0 where
  pub line : Line
  pub wire : Option Traffic
  pub core : C
  pub left : Option ℕ
  pub ready : Readiness

abbrev pub here : {C : Type 0} → Line → Option Traffic → C → Option ℕ → Readiness → Moment C
here line wire core left ready = record { line = line; wire = wire; core = core; left = left; ready = ready }

-- where no request is said to wait, none does
abbrev pub IsTold : {C : Type 0} → (C → Type 0) → Moment C → Type 0
IsTold idle now = now.ready.waiting ≡ false → idle now.core

-- where none is answered any more, the line is closed
abbrev pub IsEnded : {C : Type 0} → (C → Bool) → Moment C → Type 0
IsEnded over now = over now.core ≡ true → is_open now.line.stage ≡ false

-- the pieces that were read, and the requests that were answered or worked on
abbrev pub pieces_at : Event → ℕ
pieces_at (Readable piece) = 1
pieces_at (Declined piece) = 1
pieces_at (Answered reply) = 0
pieces_at (Writable room) = 0
pieces_at Ends = 0
pieces_at Fails = 0
pieces_at Worked = 0

abbrev pub answers_at : Event → ℕ
answers_at (Readable piece) = 0
answers_at (Declined piece) = 0
answers_at (Answered reply) = 1
answers_at (Writable room) = 0
answers_at Ends = 0
answers_at Fails = 0
answers_at Worked = 1

-- the replies and the ends, behind which what was under way may be gone
abbrev pub settles_at : Event → ℕ
settles_at (Readable piece) = 0
settles_at (Declined piece) = 0
settles_at (Answered reply) = 1
settles_at (Writable room) = 0
settles_at Ends = 1
settles_at Fails = 0
settles_at Worked = 0

abbrev pub replies_at : Event → ℕ
replies_at (Readable piece) = 0
replies_at (Declined piece) = 0
replies_at (Answered reply) = 1
replies_at (Writable room) = 0
replies_at Ends = 0
replies_at Fails = 0
replies_at Worked = 0

abbrev pub count_of : (Event → ℕ) → List Event → ℕ
count_of at [] = 0
count_of at (e ∷ es) = at e + count_of at es

-- the most requests that a turn answers
abbrev pub most_requests : ℕ
most_requests = 64

-- These events happened: to the line, on the wire, and to the core, with so many pieces and requests at most. Where it could go on, something moved or turned out to want a wait; where it could not, nothing changed. What is under way stays or falls, unless a reply was given or the line ended.
pub record Turned {C : Type 0} (most_pieces most_answers : ℕ) (takes answers : C → List ℕ → C → Type 0) (idle : C → Type 0) (over : C → Bool) (can : Readiness → Line → Bool) (old new : Moment C) : Type 0 where
  pub events : List Event
  pub line_is : new.line ≡ run old.line events
  pub wire_is : new.wire ≡ moved (read old.line events) (sent old.line events) old.wire
  pub core_is : DoesAll takes answers old.line events old.core new.core
  pub few_pieces : count_of pieces_at events ≤ most_pieces
  pub few_answers : count_of answers_at events ≤ most_answers
  pub goes_on : can old.ready old.line ≡ true → (moves old.line events ≡ true) ⊎ HasFallen old.ready new.ready
  pub rises : moves old.line events ≡ false → HasNotRisen old.ready new.ready
  pub stays : can old.ready old.line ≡ false → new ≡ old
  pub told : IsTold idle old → IsTold idle new
  pub ended : IsEnded over old → IsEnded over new
  pub works : count_of settles_at events ≡ 0 → KeepsWork old.left new.left

-- A reply was given among what happened.
pub record GivesSome {C : Type 0} (takes answers : C → List ℕ → C → Type 0) (line : Line) (core : C) (line' : Line) (core' : C) : Type 0 where
  pub events : List Event
  pub line_is : line' ≡ run line events
  pub core_is : DoesAll takes answers line events core core'
  pub some : 0 < count_of replies_at events

-- A reply was given, no request waits, the line is closed, or so much is left of what is under way.
abbrev pub GoesOn : {C : Type 0} → (work : Option ℕ → Option ℕ → Type 0) → (takes answers : C → List ℕ → C → Type 0) → (old new : Moment C) → Type 0
GoesOn work takes answers old new = GivesSome takes answers old.line old.core new.line new.core ⊎ ((new.ready.waiting ≡ false) ⊎ ((is_open new.line.stage ≡ false) ⊎ work old.left new.left))

-- A request came nearer to its reply.
abbrev pub Advances : {C : Type 0} → (takes answers : C → List ℕ → C → Type 0) → (old new : Moment C) → Type 0
Advances takes answers old new = GoesOn IsLess takes answers old new

-- One write: some bytes went out, or there is no room, or a fault came.
abbrev pub WritesOnce : Line → Option Traffic → Readiness → Line → Option Traffic → Readiness → Type 0
WritesOnce line wire ready line' wire' ready' =
    ((n : ℕ) × (0 < n) × (line' ≡ after line (Writable n)) × (wire' ≡ with_written (take n line.owed) wire) × (ready' ≡ ready))
    ⊎ (((line' ≡ line) × (wire' ≡ wire) × (ready' ≡ record ready { writable = false }))
    ⊎ ((line' ≡ after line Fails) × (wire' ≡ wire) × (ready' ≡ ready)))

abbrev pub Flushes : Line → Option Traffic → Readiness → Line → Option Traffic → Readiness → Type 0
Flushes line wire ready line' wire' ready' = MatchBool (can_write ready line)
    (WritesOnce line wire ready line' wire' ready')
    ((line' ≡ line) × (wire' ≡ wire) × (ready' ≡ ready))
