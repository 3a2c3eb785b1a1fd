-- The parts of a request's frame.
use Rattle.std.proofs.Common.{◌≡◌, ℕ, ◌+◌, List, ◌∷◌, ◌++◌, length, ap, ◌∙◌, arith, length-append, append_assoc}
use Rattle.std.specs.Int.{w32, to_be_bytes}
use Rattle.wire_frames.specs.Requests.{Asked}
use Rattle.wire_frames.specs.Encoding.{command_byte, fields}
use Rattle.client_frames.specs.Sent.{given_field, parts, request}

pub joined : (old head key c d rest : List ℕ) → ((((old ++ head) ++ key) ++ c) ++ d) ++ rest ≡ old ++ (head ++ (key ++ (c ++ (d ++ rest))))
joined old head key c d rest = simp append_assoc

pub long_body : (c d rest : List ℕ) → length (parts c d rest) ≡ length (given_field c) + length (given_field d) + length rest
long_body c d rest = omega (arith, length-append (given_field c) (given_field d ++ rest), length-append (given_field d) rest)

-- the head, the key and the fields are the request's frame
pub is_request : (number : ℕ) (key : List ℕ) (asked : Asked) (command n : ℕ) (given : List ℕ) → length key ≡ 16 → command ≡ command_byte asked → given ≡ fields asked → n ≡ 21 + length given
    → (to_be_bytes w32 n ++ command ∷ to_be_bytes w32 number) ++ (key ++ given) ≡ request number key asked
is_request number key asked command n given sixteen c f long =
    let l : n ≡ length (command ∷ (to_be_bytes w32 number ++ (key ++ given))) = omega (arith, long, length-append key given, sixteen) in
    append_assoc (to_be_bytes w32 n) (command ∷ to_be_bytes w32 number) (key ++ given)
    ∙ ap (λ k. to_be_bytes w32 k ++ (command ∷ (to_be_bytes w32 number ++ (key ++ given)))) l
    ∙ ap (λ b. to_be_bytes w32 (length b) ++ b) (ap (λ x. x ∷ (to_be_bytes w32 number ++ (key ++ given))) c ∙ ap (λ x. command_byte asked ∷ (to_be_bytes w32 number ++ (key ++ x))) f)
