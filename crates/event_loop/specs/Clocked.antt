-- What the clock told, and when it was read by which a connection is idle: this project's own.
use Rattle.std.specs.Prelude.{◌≡◌, ◌⊎◌, ◌/◌, ℕ, Option, Some, None}
use Rattle.std.specs.Duration.{as_nanos}
use Rattle.std.specs.declared.time.Duration.{Duration}
use Rattle.open_connections.specs.declared.open.Open.{Open}
use Rattle.open_connections.specs.Opened.{bytes_of, IsMarked}

-- the clock was last read when as many bytes had moved as now, and its second stands at the connection
pub record IsNoted {S C T : Type 0} (key : ℕ) (opened : Open S C T) (counted : ℕ × ℕ) (second : ℕ) : Type 0 where
  pub behind : counted ≡ bytes_of opened
  pub marked : IsMarked opened key second

-- no byte moved, or the clock was read behind the last one
abbrev pub NotesMoved : {S C T : Type 0} → ℕ → (old new : Open S C T) → ℕ × ℕ → ℕ → Type 0
NotesMoved key old new counted second = (bytes_of new ≡ bytes_of old) ⊎ IsNoted key new counted second

-- the second of a reading: where the clock fails, that of the last one
abbrev pub second_of : Option Duration → (last : ℕ) → ℕ
second_of None last = last
second_of (Some elapsed) last = as_nanos elapsed / 1_000_000_000

-- the clock told it
abbrev pub IsRead : {T : Type 0} → (tells : T → Option Duration → Type 0) → T → (last last' : ℕ) → Type 0
IsRead tells clock last last' = (reading : Option Duration) × tells clock reading × (last' ≡ second_of reading last)
