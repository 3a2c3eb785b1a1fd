-- The bytes that a wire moved, where it tells them: this project's own.
use Rattle.std.specs.Prelude.{◌≡◌, ℕ, ◌-◌, ◌^◌, List, [], ◌++◌, length, min, Option, Some, None}
use Rattle.std.specs.Option.{option_map}

pub record Traffic : Type 0 where
  pub read : List ℕ
  pub written : List ℕ

-- after this piece was read
abbrev pub with_read : List ℕ → Option Traffic → Option Traffic
with_read piece o = option_map (λ t. record { read = t.read ++ piece; written = t.written }) o

-- after these bytes were written
abbrev pub with_written : List ℕ → Option Traffic → Option Traffic
with_written bytes o = option_map (λ t. record { read = t.read; written = t.written ++ bytes }) o

-- after both
abbrev pub moved : List ℕ → List ℕ → Option Traffic → Option Traffic
moved piece bytes o = option_map (λ t. record { read = t.read ++ piece; written = t.written ++ bytes }) o

-- nothing moved yet, as far as it is told
abbrev pub IsUnused : Option Traffic → Type 0
IsUnused None = Unit {0}
IsUnused (Some t) = (t.read ≡ []) × (t.written ≡ [])

-- nothing was written; a piece may have been read
abbrev pub IsReadOn : Option Traffic → Option Traffic → Type 0
IsReadOn old new = (piece : List ℕ) × (new ≡ with_read piece old)

-- so many bytes were read and written, as far as it is told: each number stops at the greatest of 64 bits
pub record HasMoved (old new : Option Traffic) (read written : ℕ) : Type 0 where
  pub piece : List ℕ
  pub bytes : List ℕ
  pub is : new ≡ moved piece bytes old
  pub read_is : read ≡ min (length piece) (2 ^ 64 - 1)
  pub written_is : written ≡ min (length bytes) (2 ^ 64 - 1)
