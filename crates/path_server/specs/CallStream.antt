-- What a call with the lines that a reader had does: the requests are called as with the lines at hand, and the lines of the replies are written, also at a fault (this project's own).
use Rattle.std.specs.Prelude.{◌≡◌, ◌<◌, ◌≤◌, ℕ, List, [], length, Option, Result, Ok, Err}
use Rattle.std.specs.Io.KnownBytes.{Appends}
use Rattle.standard_streams.specs.Fronts.{StopsShort}
use Rattle.path_hub.specs.Wires.{Meaning}
use Rattle.path_server.specs.TextLines.{text_limit}
use Rattle.path_server.specs.Calls.{CallsOver}
use Rattle.path_server.specs.declared.call_fault.CallFault.{CallFault}
use Rattle.path_server.specs.declared.call_streams.CallStreamFault.{CallStreamFault}
use Rattle.path_server.specs.declared.call_streams.CallStreamFault.TheVariants.{Call, Unwritten, Write}

-- the whole text, or both are above the limit
pub record IsReadFrom (left lines : List ℕ) : Type 0 where
  pub whole : length lines ≤ text_limit → lines ≡ left
  pub above : text_limit < length lines → text_limit < length left

-- a call that ends so, with what it appends written behind what the writer held
pub record CallsAndWrites (lines : List ℕ) (m : Meaning) (old : Option (List ℕ)) (end' : Result (Unit {0}) CallFault) (n : Meaning) (new : Option (List ℕ)) : Type 0 where
  pub replies : List ℕ
  pub called : CallsOver lines m [] end' n replies
  pub written : Appends old new replies

-- a call that ends so, of what it appends a front written behind what the writer held, and not all
pub record CallsAndStops (lines : List ℕ) (m : Meaning) (old : Option (List ℕ)) (end' : Result (Unit {0}) CallFault) (n : Meaning) (new : Option (List ℕ)) : Type 0 where
  pub replies : List ℕ
  pub called : CallsOver lines m [] end' n replies
  pub stopped : StopsShort replies old new

-- the call's own fault goes before that of the writer
abbrev pub CallsStream : (lines : List ℕ) → Meaning → (old : Option (List ℕ)) → Result (Unit {0}) CallStreamFault → Meaning → (new : Option (List ℕ)) → Type 0
CallsStream lines m old (Ok u) n new = CallsAndWrites lines m old (Ok u) n new
CallsStream lines m old (Err (Call fault)) n new = CallsAndWrites lines m old (Err fault) n new
CallsStream lines m old (Err (Unwritten fault)) n new = CallsAndStops lines m old (Err fault) n new
CallsStream lines m old (Err (Write fault)) n new = CallsAndStops lines m old (Ok tt) n new
