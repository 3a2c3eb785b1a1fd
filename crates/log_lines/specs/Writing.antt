-- Lines that go out whole or not at all: this project's own.
use Rattle.std.specs.Prelude.{◌≡◌, ◌⊎◌, ℕ, ◌+◌, ◌-◌, ◌^◌, List, ◌++◌, drop, min, string_bytes, Option}
use Rattle.std.specs.Option.{option_map}
use Rattle.log_lines.specs.declared.line_writer.LineWriter.{LineWriter}

-- what was not taken of the line that was begun last
abbrev pub rest_of : LineWriter → List ℕ
rest_of w = drop w.written (string_bytes w.line)

-- what an outlet took and the rest of a line
abbrev pub with_rest : Option (List ℕ) → LineWriter → Option (List ℕ)
with_rest taken w = option_map (λ t. t ++ rest_of w) taken

-- the line follows those before it
pub record Follows (line : List ℕ) (taken taken' : Option (List ℕ)) (old new : LineWriter) : Type 0 where
  pub bytes : with_rest taken' new ≡ option_map (λ t. t ++ (rest_of old ++ line)) taken
  pub lost_stays : new.lost ≡ old.lost

-- nothing of the line is written, and it is counted as lost
pub record IsLost (taken taken' : Option (List ℕ)) (old new : LineWriter) : Type 0 where
  pub bytes : with_rest taken' new ≡ with_rest taken old
  pub counted : new.lost ≡ min (old.lost + 1) (2 ^ 64 - 1)

abbrev pub Puts : (line : List ℕ) → (taken taken' : Option (List ℕ)) → LineWriter → LineWriter → Type 0
Puts line taken taken' old new = Follows line taken taken' old new ⊎ IsLost taken taken' old new
