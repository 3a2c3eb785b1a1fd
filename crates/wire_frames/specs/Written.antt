-- What is read as a request was written as one: this project's own commands, from the side of who asks, the other way round.
use Rattle.std.specs.Prelude.{◌≡◌, ◌↔◌, ℕ, ◌<◌, ◌≤◌, ◌^◌, List, length, IsTrue}
use Rattle.std.specs.List.{All}
use Rattle.wire_frames.specs.Frames.{IsByte}
use Rattle.wire_frames.specs.Requests.{Asked, Asks, BadFields, reading, is_known, command_of, number_of, key_of, fields_of}
use Rattle.wire_frames.specs.Encoding.{command_byte, fields, written, IsNamed}

-- the body is that of this request
pub record IsWritten (number : ℕ) (key : List ℕ) (asked : Asked) (body : List ℕ) : Type 0 where
  pub few : number < 2 ^ 32
  pub sixteen : length key ≡ 16
  pub named : IsNamed asked
  pub body_is : body ≡ written number key asked

-- the body has the command and the fields of this request
pub record Spells (body : List ℕ) (asked : Asked) : Type 0 where
  pub named : IsNamed asked
  pub command : command_of body ≡ command_byte asked
  pub spelled : fields_of body ≡ fields asked

-- A body that is read as a request is that request's. The fields of a known command are bad exactly where they are those of no request.
pub record ReadsOnlyWritten : Type 0 where
  pub requests : (body : List ℕ) (number : ℕ) (key : List ℕ) (asked : Asked) → All IsByte body → reading body ≡ Asks number key asked → IsWritten number key asked body
  pub bad_fields : (body : List ℕ) → 21 ≤ length body → IsTrue (is_known (command_of body)) → reading body ≡ BadFields (number_of body) (key_of body) ↔ ((asked : Asked) → Spells body asked → ⊥)
