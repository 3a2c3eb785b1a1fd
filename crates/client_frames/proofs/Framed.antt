-- Replies among bytes.
use Rattle.std.proofs.Common.{◌≡◌, ℕ, ◌+◌, ◌<◌, ◌≤◌, ◌⊎◌, inl, inr, List, [], ◌∷◌, ◌++◌, length, take, drop, get_or, sym, ap, ◌∙◌, refl, arith, length-append, append_assoc}
use Rattle.std.specs.Int.{w32, from_be_bytes, to_be_bytes}
use Rattle.std.proofs.lemmas.List.{take_at, take-append-drop, take-append-le}
use Rattle.std.proofs.lemmas.Nat.{from_be_bytes-to_be_bytes_4}
use Rattle.store_names.specs.Lengths.{payload_limit, longest_reply}
use Rattle.wire_frames.specs.Frames.{body_length}
use Rattle.wire_frames.specs.Replies.{reply}
use Rattle.client_frames.specs.Came.{HoldsNoReply}

-- what bytes that begin with a reply are made of
record HasReply (bytes payload more : List ℕ) : Type 0 where
  long : length bytes ≡ 9 + (length payload + length more)
  spelled : body_length bytes ≡ 5 + length payload

parts : (bytes head behind payload more : List ℕ) → bytes ≡ ((head ++ behind) ++ payload) ++ more → length head ≡ 4 → length behind ≡ 5 → from_be_bytes w32 head ≡ 5 + length payload → HasReply bytes payload more
parts bytes head behind payload more e four five spells =
    let joined : bytes ≡ head ++ (behind ++ (payload ++ more)) = e ∙ append_assoc (head ++ behind) payload more ∙ append_assoc head behind (payload ++ more) in
    let t : take 4 bytes ≡ head = ap (take 4) joined ∙ take_at head (behind ++ (payload ++ more)) 4 four in
    record {
      long = omega (arith, ap length joined, length-append head (behind ++ (payload ++ more)), length-append behind (payload ++ more), length-append payload more, four, five);
      spelled = ap (from_be_bytes w32) t ∙ spells;
    }

has_reply : (bytes : List ℕ) (status number : ℕ) (payload more : List ℕ) → length payload ≤ payload_limit → bytes ≡ reply status number payload ++ more → HasReply bytes payload more
unfolding reply
has_reply bytes status number payload more small e = parts bytes (to_be_bytes w32 (5 + length payload)) (status ∷ to_be_bytes w32 number) payload more e refl refl (from_be_bytes-to_be_bytes_4 (5 + length payload) (omega (arith, small)))

-- fewer bytes than a length has
pub no_length : (bytes : List ℕ) → length bytes < 4 → HoldsNoReply bytes
no_length bytes short status number payload more small e =
    let long = (has_reply bytes status number payload more small e).long in
    omega (arith, long, short)

-- fewer bytes than the length says
pub not_whole : (bytes : List ℕ) → length bytes < 4 + body_length bytes → HoldsNoReply bytes
not_whole bytes short status number payload more small e =
    let p = has_reply bytes status number payload more small e in
    let long = p.long in
    let spelled = p.spelled in
    omega (arith, long, spelled, short)

-- a length that no reply has
pub other_length : (bytes more : List ℕ) → 4 ≤ length bytes → (body_length bytes < 5) ⊎ (longest_reply < body_length bytes) → HoldsNoReply (bytes ++ more)
other_length bytes more four other status number payload later small e =
    let spelled = (has_reply (bytes ++ more) status number payload later small e).spelled in
    let same : body_length (bytes ++ more) ≡ body_length bytes = ap (from_be_bytes w32) (take-append-le 4 bytes more four) in
    elim other [
      | inl below ↦ omega (arith, spelled, same, below)
      | inr above ↦ omega (arith, spelled, same, above, small)
    ]

-- a body from its parts
pub body_parts : (body : List ℕ) (status number : ℕ) → 5 ≤ length body → status ≡ get_or body 0 0 → to_be_bytes w32 number ≡ take 4 (drop 1 body) → body ≡ status ∷ (to_be_bytes w32 number ++ drop 4 (drop 1 body))
body_parts [] status number five s n = absurd (omega (arith, five))
body_parts (first ∷ behind) status number five s n =
    ap (λ x. first ∷ x) (sym (take-append-drop 4 behind)) ∙ ap (λ x. first ∷ (x ++ drop 4 behind)) (sym n) ∙ ap (λ x. x ∷ (to_be_bytes w32 number ++ drop 4 behind)) (sym s)

-- a reply from its parts
pub whole : (bytes body rest payload : List ℕ) (n status number : ℕ) → to_be_bytes w32 n ≡ take 4 bytes → body ++ rest ≡ drop 4 bytes → n ≡ 5 + length payload → body ≡ status ∷ (to_be_bytes w32 number ++ payload)
    → bytes ≡ reply status number payload ++ rest
unfolding reply
whole bytes body rest payload n status number head behind long made =
    let b : (status ∷ to_be_bytes w32 number) ++ (payload ++ rest) ≡ drop 4 bytes = sym (append_assoc (status ∷ to_be_bytes w32 number) payload rest) ∙ ap (λ x. x ++ rest) (sym made) ∙ behind in
    sym (append_assoc (to_be_bytes w32 (5 + length payload) ++ status ∷ to_be_bytes w32 number) payload rest
    ∙ append_assoc (to_be_bytes w32 (5 + length payload)) (status ∷ to_be_bytes w32 number) (payload ++ rest)
    ∙ ap (λ k. to_be_bytes w32 k ++ ((status ∷ to_be_bytes w32 number) ++ (payload ++ rest))) (sym long)
    ∙ ap (λ x. to_be_bytes w32 n ++ x) b ∙ ap (λ h. h ++ drop 4 bytes) head ∙ take-append-drop 4 bytes)
