-- How a frame is written as a line: this project's own.
use Rattle.std.specs.Prelude.{ℕ, List, [], ◌∷◌, ◌++◌}
use Rattle.hex.specs.Hex.{encode_lower}

-- its bytes in lower-case hexadecimal digits, and a line feed
abbrev pub frame_line : List ℕ → List ℕ
frame_line frame = encode_lower frame ++ 10 ∷ []
