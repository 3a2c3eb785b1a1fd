-- Frames by the lengths that they spell.
use Rattle.std.proofs.Common.{◌≡◌, ◌≢◌, ℕ, ◌+◌, ◌<◌, ◌≤◌, Bool, true, false, List, [], ◌++◌, length, take, drop, sym, ap, ◌∙◌, refl, arith, length-append, length-drop, append_assoc, ◌⊎◌, inl, inr, nat_lt}
use Rattle.std.specs.Int.{w32, from_be_bytes, to_be_bytes}
use Rattle.std.proofs.lemmas.List.{append-nil, take_at, take-append-drop}
use Rattle.std.proofs.lemmas.Bool.Decides.{nat_tests}
use Rattle.std.proofs.lemmas.Nat.{from_be_bytes-to_be_bytes_4}
use Rattle.std.proofs.lemmas.Bool.{false≢true}
use Rattle.std.proofs.lemmas.Slice.Eq.{bytes_eq-Decides}
use Rattle.std.specs.Str.{bytes_eq}
use Rattle.store_names.specs.Lengths.{longest_reply}
use Rattle.wire_frames.specs.Frames.{body_length, frame, longest_body}
use Rattle.path_server.specs.Calls.{HoldsNoReply, IsRequest}
use Rattle.path_server.specs.Exchanges.{IsReply, SpellsLength}

-- what bytes that begin with a frame are made of
pub record HasFrame (bytes body more : List ℕ) : Type 0 where
  pub long : length bytes ≡ 4 + (length body + length more)
  pub spelled : body_length bytes ≡ length body
  pub head : take 4 bytes ≡ to_be_bytes w32 (length body)

parts : (bytes head body more : List ℕ) → bytes ≡ (head ++ body) ++ more → length head ≡ 4 → from_be_bytes w32 head ≡ length body → head ≡ to_be_bytes w32 (length body) → HasFrame bytes body more
parts bytes head body more e four spells same =
    let joined : bytes ≡ head ++ (body ++ more) = e ∙ append_assoc head body more in
    let t : take 4 bytes ≡ head = ap (take 4) joined ∙ take_at head (body ++ more) 4 four in
    record {
      long = omega (arith, ap length joined, length-append head (body ++ more), length-append body more, four);
      spelled = ap (from_be_bytes w32) t ∙ spells;
      head = t ∙ same;
    }

pub has_frame : (bytes body more : List ℕ) → length body < 4294967296 → bytes ≡ frame body ++ more → HasFrame bytes body more
has_frame bytes body more small e = parts bytes (to_be_bytes w32 (length body)) body more e refl (from_be_bytes-to_be_bytes_4 (length body) (omega (arith, small))) refl

-- bytes of the length that they spell are a frame
pub framed : (bytes : List ℕ) (n : ℕ) → SpellsLength bytes n → length bytes ≡ n + 4 → bytes ≡ frame (drop 4 bytes)
framed bytes n s long =
    let l : length (drop 4 bytes) ≡ n = omega (arith, length-drop 4 bytes, long) in
    sym (ap (λ k. to_be_bytes w32 k ++ drop 4 bytes) l ∙ ap (λ h. h ++ drop 4 bytes) s.head ∙ take-append-drop 4 bytes)

pub body_long : (bytes : List ℕ) (n : ℕ) → length bytes ≡ n + 4 → length (drop 4 bytes) ≡ n
body_long bytes n long = omega (arith, length-drop 4 bytes, long)

-- ---- requests

pub is_request : (bytes : List ℕ) (n : ℕ) → SpellsLength bytes n → length bytes ≡ n + 4 → n ≤ longest_body → IsRequest bytes
is_request bytes n s long small = record { body = drop 4 bytes; short = omega (arith, body_long bytes n long, small); framed = framed bytes n s long }

request_parts : (bytes : List ℕ) → (r : IsRequest bytes) → HasFrame bytes r.body []
request_parts bytes r = let short = r.short in has_frame bytes r.body [] (omega (arith, short)) (r.framed ∙ sym (append-nil (frame r.body)))

pub request_long : (bytes : List ℕ) → IsRequest bytes → 4 ≤ length bytes
request_long bytes r = let h = (request_parts bytes r).long in omega (arith, h)

pub request_spells : (bytes : List ℕ) → IsRequest bytes → (body_length bytes ≤ longest_body) × (length bytes ≡ body_length bytes + 4)
request_spells bytes r =
    let p = request_parts bytes r in
    let short = r.short in
    let spelled = p.spelled in
    let long = p.long in
    (omega (arith, short, spelled), omega (arith, spelled, long))

-- ---- replies

pub above_limit : (bytes : List ℕ) → longest_reply < body_length bytes → HoldsNoReply bytes
above_limit bytes above body more small e =
    let p = has_frame bytes body more (omega (arith, small)) e in
    let spelled = p.spelled in
    omega (arith, above, small, spelled)

pub not_whole : (bytes : List ℕ) → length bytes < 4 + body_length bytes → HoldsNoReply bytes
not_whole bytes short body more small e =
    let p = has_frame bytes body more (omega (arith, small)) e in
    let spelled = p.spelled in
    let long = p.long in
    omega (arith, short, spelled, long)

pub holds_nothing : HoldsNoReply []
holds_nothing body more small e = let p = has_frame [] body more (omega (arith, small)) e in let long = p.long in omega (arith, long)

pub is_reply : (bytes : List ℕ) (n : ℕ) → SpellsLength bytes n → length bytes ≡ n + 4 → n ≤ longest_reply → IsReply bytes
is_reply bytes n s long small = record { body = drop 4 bytes; short = omega (arith, body_long bytes n long, small); framed = framed bytes n s long }

other_head : (bytes : List ℕ) → (to_be_bytes w32 (body_length bytes) ≢ take 4 bytes) → HoldsNoReply bytes
other_head bytes other body more small e =
    let p = has_frame bytes body more (omega (arith, small)) e in
    other (ap (to_be_bytes w32) p.spelled ∙ sym p.head)

by_head : (bytes : List ℕ) (same : Bool) → bytes_eq (to_be_bytes w32 (body_length bytes)) (take 4 bytes) ≡ same → length bytes ≡ body_length bytes + 4 → body_length bytes ≤ longest_reply → HoldsNoReply bytes ⊎ IsReply bytes
by_head bytes true e long small = inr (is_reply bytes (body_length bytes) (record { length_is = refl; head = (bytes_eq-Decides (to_be_bytes w32 (body_length bytes)) (take 4 bytes)).0 e }) long small)
by_head bytes false e long small = inl (other_head bytes (λ same. false≢true (sym e ∙ (bytes_eq-Decides (to_be_bytes w32 (body_length bytes)) (take 4 bytes)).1 same)))

by_length : (bytes : List ℕ) (less above : Bool) → nat_lt (length bytes) (4 + body_length bytes) ≡ less → nat_lt longest_reply (body_length bytes) ≡ above → length bytes ≤ 4 + body_length bytes → HoldsNoReply bytes ⊎ IsReply bytes
by_length bytes true above l a most = inl (not_whole bytes (grind (arith, nat_tests, l)))
by_length bytes false true l a most = inl (above_limit bytes (grind (arith, nat_tests, a)))
by_length bytes false false l a most = by_head bytes (bytes_eq (to_be_bytes w32 (body_length bytes)) (take 4 bytes)) refl (grind (arith, nat_tests, l, most)) (grind (arith, nat_tests, a))

-- no more than they spell: less than a reply, or one
pub reply_or_none : (bytes : List ℕ) → length bytes ≤ 4 + body_length bytes → HoldsNoReply bytes ⊎ IsReply bytes
reply_or_none bytes most = by_length bytes (nat_lt (length bytes) (4 + body_length bytes)) (nat_lt longest_reply (body_length bytes)) refl refl most
