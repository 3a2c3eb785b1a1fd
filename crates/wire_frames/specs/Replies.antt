-- The frame of a reply: this project's own. A length in four bytes, the most significant first, and a body of a status byte, the request's number in four bytes and the payload.
use Rattle.std.specs.Prelude.{ℕ, ◌+◌, List, ◌∷◌, ◌++◌, length}
use Rattle.std.specs.Int.{w32, to_be_bytes}

abbrev pub head : ℕ → ℕ → ℕ → List ℕ
head status number payload = to_be_bytes w32 (5 + payload) ++ status ∷ to_be_bytes w32 number

unfoldable pub reply : ℕ → ℕ → List ℕ → List ℕ
reply status number payload = head status number (length payload) ++ payload
