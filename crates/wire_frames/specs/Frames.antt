-- How a stream of bytes is split into whole frames and a rest that holds none: this project's own framing. A frame is a length in four bytes, the most significant first, and a body of that length.
use Rattle.std.specs.Prelude.{◌≡◌, ◌≢◌, ℕ, zero, suc, ◌<◌, ◌≤◌, List, [], ◌∷◌, ◌++◌, length, take, drop, nat_lt, if◌then◌else◌, Bool, true, false}
use Rattle.std.specs.List.{All, flat_map}
use Rattle.std.specs.Int.{w32, to_be_bytes, from_be_bytes}

-- the longest body of a request
abbrev pub longest_body : ℕ
longest_body = 6291456

abbrev pub frame : List ℕ → List ℕ
frame body = to_be_bytes w32 (length body) ++ body

-- As a relation: the stream is the frames of these bodies and then this rest, and the rest begins with no frame.

abbrev pub IsByte : ℕ → Type 0
IsByte byte = byte < 256

abbrev pub HoldsNone : List ℕ → Type 0
HoldsNone stream = (body more : List ℕ) → length body ≤ longest_body → stream ≢ frame body ++ more

pub record IsSplit (stream : List ℕ) (bodies : List (List ℕ)) (left : List ℕ) : Type 0 where
  pub whole : stream ≡ flat_map frame bodies ++ left
  pub each : All (λ body. length body ≤ longest_body) bodies
  pub none : HoldsNone left

-- As a function: what a stream begins with, taken off as long as it is a whole frame.

-- a whole frame's body and what follows it, less than a frame, or four bytes that spell a length above the limit
pub data Front : Type 0 where
  Whole : List ℕ → List ℕ → Front
  Wait : Front
  Fault : Front

-- the length that the first four bytes spell
abbrev pub body_length : List ℕ → ℕ
body_length stream = from_be_bytes w32 (take 4 stream)

unfoldable pub front : List ℕ → Front
front stream =
    if nat_lt (length stream) 4 then Wait
    else (if nat_lt longest_body (body_length stream) then Fault
    else (if nat_lt (length (drop 4 stream)) (body_length stream) then Wait
    else Whole (take (body_length stream) (drop 4 stream)) (drop (body_length stream) (drop 4 stream))))

abbrev pub is_whole : Front → Bool
is_whole (Whole body more) = true
is_whole Wait = false
is_whole Fault = false

abbrev pub is_fault : Front → Bool
is_fault (Whole body more) = false
is_fault Wait = false
is_fault Fault = true

pub record Split : Type 0 where
  pub frames : List (List ℕ)
  pub rest : List ℕ

abbrev pub and_then : List ℕ → Split → Split
and_then body s = record { frames = body ∷ s.frames; rest = s.rest }

abbrev pub split_by : Front → List ℕ → (List ℕ → Split) → Split
split_by (Whole body more) stream f = and_then body (f more)
split_by Wait stream f = record { frames = []; rest = stream }
split_by Fault stream f = record { frames = []; rest = stream }

-- the first so many frames
unfoldable pub split_within : ℕ → List ℕ → Split
split_within zero stream = record { frames = []; rest = stream }
split_within (suc n) stream = split_by (front stream) stream (split_within n)

-- each frame has at least four bytes, so a stream has no more frames than bytes
unfoldable pub split : List ℕ → Split
split stream = split_within (length stream) stream

-- the bodies of the whole frames, in order
abbrev pub frames : List ℕ → List (List ℕ)
frames stream = (split stream).frames

-- what is left behind them
abbrev pub rest : List ℕ → List ℕ
rest stream = (split stream).rest

-- whether what is left begins with a length above the limit; otherwise it waits for more
abbrev pub is_broken : List ℕ → Bool
is_broken stream = is_fault (front (rest stream))

-- these frames first
abbrev pub after_frames : List (List ℕ) → Split → Split
after_frames bodies s = record { frames = bodies ++ s.frames; rest = s.rest }
