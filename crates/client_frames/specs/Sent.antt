-- What a client sends: the frame of a request, by the definition that the server reads it by.
use Rattle.std.specs.Prelude.{ℕ, ◌<◌, ◌≤◌, List, [], ◌∷◌, ◌++◌, length}
use Rattle.json_tape.specs.Verdict.{text_limit}
use Rattle.path_types.specs.Verdict.{query_limit}
use Rattle.wire_frames.specs.Frames.{frame}
use Rattle.wire_frames.specs.Requests.{Asked, Put, Query, PutNew}
use Rattle.wire_frames.specs.Encoding.{written, name_field}
use Rattle.client_frames.specs.declared.requests.SendFault.{SendFault}
use Rattle.client_frames.specs.declared.requests.SendFault.TheVariants.{TextTooLong, QueryTooLong, Memory}

-- the bytes on the wire
abbrev pub request : (number : ℕ) (key : List ℕ) → Asked → List ℕ
request number key asked = frame (written number key asked)

-- the text and the query are not above their limits
abbrev pub IsWithin : Asked → Type 0
IsWithin (Put c d text) = length text ≤ text_limit
IsWithin (Query c query) = length query ≤ query_limit
IsWithin (PutNew c d text) = length text ≤ text_limit
IsWithin _ = Unit {0}

-- what was refused is above its limit, or memory was refused
abbrev pub IsAbove : SendFault → Asked → Type 0
IsAbove TextTooLong (Put c d text) = text_limit < length text
IsAbove TextTooLong (PutNew c d text) = text_limit < length text
IsAbove TextTooLong _ = ⊥
IsAbove QueryTooLong (Query c query) = query_limit < length query
IsAbove QueryTooLong _ = ⊥
IsAbove Memory asked = IsWithin asked

-- ---- for private clauses

-- a name behind its length, or nothing where there is none
abbrev pub given_field : List ℕ → List ℕ
given_field [] = []
given_field (byte ∷ name) = name_field (byte ∷ name)

-- what a command's fields are made of
abbrev pub parts : (collection document rest : List ℕ) → List ℕ
parts c d rest = given_field c ++ (given_field d ++ rest)
