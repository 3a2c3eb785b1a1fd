-- Calls over a wire: requests are sent one by one, each once the reply to the one before was read whole. This project's own.
use Rattle.std.specs.Prelude.{◌≡◌, ◌≢◌, ◌⊎◌, ◌+◌, ◌<◌, ◌≤◌, ℕ, List, [], ◌∷◌, ◌++◌, length, map, drop, flat_map, Result, Ok, Err}
use Rattle.std.specs.List.{All}
use Rattle.hex.specs.Hex.{decode_of}
use Rattle.store_names.specs.Lengths.{longest_reply}
use Rattle.wire_frames.specs.Frames.{frame, body_length, longest_body}
use Rattle.path_hub.specs.Into.{joined}
use Rattle.path_hub.specs.Wires.{Move, Gave, Took, Meaning, Moved, HasEnded, read_in, written_in}
use Rattle.path_server.specs.TextLines.{IsFirstBad, SpellAll, lines_in, text_limit}
use Rattle.path_server.specs.FrameLines.{frame_line}
use Rattle.path_server.specs.declared.request_lines.Request.{Request}
use Rattle.path_server.specs.declared.call_fault.CallFault.{CallFault}
use Rattle.path_server.specs.declared.call_fault.CallFault.TheVariants.{TooLong, BadLine, ReadFault, WriteFault, Memory}

-- ---- lines

-- exactly one whole frame within the limit of requests
pub record IsRequest (bytes : List ℕ) : Type 0 where
  pub body : List ℕ
  pub short : length body ≤ longest_body
  pub framed : bytes ≡ frame body

-- the hexadecimal digits of a request, in either case
pub record SpellsRequest (line : List ℕ) (request : Request) : Type 0 where
  pub digits : decode_of line ≡ Ok request.frame.items
  pub whole : IsRequest request.frame.items

abbrev pub frame_of : Request → List ℕ
frame_of request = request.frame.items

-- ---- replies

abbrev pub HoldsNoReply : List ℕ → Type 0
HoldsNoReply bytes = (body more : List ℕ) → length body ≤ longest_reply → bytes ≢ frame body ++ more

-- the bytes are the replies with these bodies, and then a rest that begins with no whole reply
pub record AreReplies (bytes : List ℕ) (bodies : List (List ℕ)) (left : List ℕ) : Type 0 where
  pub whole : bytes ≡ flat_map frame bodies ++ left
  pub each : All (λ body. length body ≤ longest_reply) bodies
  pub none : HoldsNoReply left

-- a line for each reply
abbrev pub reply_lines : List (List ℕ) → List ℕ
reply_lines bodies = flat_map (λ body. frame_line (frame body)) bodies

-- ---- turns

-- a request is sent whole, and then the reply to it is read whole
pub record IsTurn (request body : List ℕ) (moves : List Move) : Type 0 where
  pub pieces : List (List ℕ)
  pub chunks : List (List ℕ)
  pub moves_are : moves ≡ map Took pieces ++ map Gave chunks
  pub sent : joined pieces ≡ request
  pub read : joined chunks ≡ frame body

-- one turn after another
abbrev pub AreTurns : (requests bodies : List (List ℕ)) → List Move → Type 0
AreTurns [] [] moves = moves ≡ []
AreTurns [] (body ∷ bodies) moves = ⊥
AreTurns (request ∷ requests) [] moves = ⊥
AreTurns (request ∷ requests) (body ∷ bodies) moves = (first others : List Move) × (moves ≡ first ++ others) × IsTurn request body first × AreTurns requests bodies others

-- a turn that is broken off: nothing is read before the request is sent whole
pub record IsPart (request : List ℕ) (moves : List Move) : Type 0 where
  pub pieces : List (List ℕ)
  pub chunks : List (List ℕ)
  pub unsent : List ℕ
  pub moves_are : moves ≡ map Took pieces ++ map Gave chunks
  pub sent : request ≡ joined pieces ++ unsent
  pub first : unsent ≢ [] → chunks ≡ []

-- the next turn is not begun, or broken off
abbrev pub StartsNext : (requests : List (List ℕ)) → List Move → Type 0
StartsNext [] moves = moves ≡ []
StartsNext (request ∷ requests) moves = IsPart request moves

-- each request is sent once the replies to those before it were read
pub record IsPaced (requests bodies : List (List ℕ)) (moves : List Move) : Type 0 where
  pub done : List (List ℕ)
  pub later : List (List ℕ)
  pub requests_are : requests ≡ done ++ later
  pub turns : List Move
  pub last : List Move
  pub moves_are : moves ≡ turns ++ last
  pub are_turns : AreTurns done bodies turns
  pub next : StartsNext later last

-- ---- ends

-- a length above the limit, and nothing behind it
pub record IsAboveLimit (bytes : List ℕ) : Type 0 where
  pub head : length bytes ≡ 4
  pub above : longest_reply < body_length bytes

-- why no whole reply was read: a read failed, the input was at its end, or the length is above the limit
abbrev pub IsReadFault : (left : List ℕ) → Meaning → Meaning → Type 0
IsReadFault left m n = (n.failures ≡ m.failures + 1) ⊎ ((n.failures ≡ m.failures) × (HasEnded n.traffic ⊎ IsAboveLimit left))

-- the requests that were answered are written, and no more
abbrev pub IsAnswered : (requests bodies : List (List ℕ)) (unsent : List ℕ) → Type 0
IsAnswered requests bodies unsent = unsent ≡ joined (drop (length bodies) requests)

-- the one after those that were answered is written whole too
pub record IsAsked (requests bodies : List (List ℕ)) (unsent : List ℕ) : Type 0 where
  pub within : length bodies < length requests
  pub whole : unsent ≡ joined (drop (length bodies + 1) requests)

-- Of a call: the bytes of requests that were not written, the bytes read behind the last whole reply, and the replies without a line.
abbrev pub EndsCall : Result (Unit {0}) CallFault → (requests bodies : List (List ℕ)) (unsent left : List ℕ) (unlined : List (List ℕ)) → Meaning → Meaning → Type 0
EndsCall (Ok u) requests bodies unsent left unlined m n = (unsent ≡ []) × (left ≡ []) × (unlined ≡ []) × (length bodies ≡ length requests) × (n.failures ≡ m.failures)
EndsCall (Err TooLong) requests bodies unsent left unlined m n = ⊥
EndsCall (Err (BadLine number)) requests bodies unsent left unlined m n = ⊥
EndsCall (Err ReadFault) requests bodies unsent left unlined m n = (unlined ≡ []) × IsAsked requests bodies unsent × IsReadFault left m n
EndsCall (Err WriteFault) requests bodies unsent left unlined m n = (unlined ≡ []) × (left ≡ []) × (length bodies < length requests) × (n.failures ≡ m.failures + 1)
EndsCall (Err Memory) requests bodies unsent left unlined m n = (length unlined ≤ 1) × (IsAnswered requests bodies unsent ⊎ IsAsked requests bodies unsent) × (n.failures ≡ m.failures)

-- A prefix of the requests is written, and a line for each whole reply among the bytes read stands behind what stood there before.
pub record Calls (requests : List (List ℕ)) (m : Meaning) (old : List ℕ) (end' : Result (Unit {0}) CallFault) (n : Meaning) (new : List ℕ) : Type 0 where
  pub moved : List Move
  pub told : Moved m.traffic moved n.traffic
  pub unsent : List ℕ
  pub sent : joined requests ≡ written_in moved ++ unsent
  pub bodies : List (List ℕ)
  pub left : List ℕ
  pub replies : AreReplies (read_in moved) bodies left
  pub paced : IsPaced requests bodies moved
  pub lined : List (List ℕ)
  pub unlined : List (List ℕ)
  pub bodies_are : bodies ≡ lined ++ unlined
  pub appended : new ≡ old ++ reply_lines lined
  pub ends : EndsCall end' requests bodies unsent left unlined m n

-- the requests that the lines spell are called
pub record CallsLines (lines : List ℕ) (m : Meaning) (old : List ℕ) (end' : Result (Unit {0}) CallFault) (n : Meaning) (new : List ℕ) : Type 0 where
  pub short : length lines ≤ text_limit
  pub requests : List Request
  pub spelled : SpellAll SpellsRequest lines requests
  pub calls : Calls (map frame_of requests) m old end' n new

-- nothing moved, and nothing is appended
abbrev pub IsUntouched : Meaning → List ℕ → Meaning → List ℕ → Type 0
IsUntouched m old n new = (n ≡ m) × (new ≡ old)

-- What a call leaves. The limit and all lines are judged before anything moves; want of memory is met only within the limit.
abbrev pub CallsOver : (lines : List ℕ) → Meaning → (old : List ℕ) → Result (Unit {0}) CallFault → Meaning → (new : List ℕ) → Type 0
CallsOver lines m old (Ok u) n new = CallsLines lines m old (Ok u) n new
CallsOver lines m old (Err TooLong) n new = (text_limit < length lines) × IsUntouched m old n new
CallsOver lines m old (Err (BadLine number)) n new = (length lines ≤ text_limit) × IsFirstBad SpellsRequest 1 (lines_in lines) number × IsUntouched m old n new
CallsOver lines m old (Err ReadFault) n new = CallsLines lines m old (Err ReadFault) n new
CallsOver lines m old (Err WriteFault) n new = CallsLines lines m old (Err WriteFault) n new
CallsOver lines m old (Err Memory) n new = ((length lines ≤ text_limit) × IsUntouched m old n new) ⊎ CallsLines lines m old (Err Memory) n new
