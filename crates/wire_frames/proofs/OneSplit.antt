-- The split that the function gives is one of the relation, and the only one.
use Rattle.std.specs.Prelude.{◌≡◌, ℕ, zero, suc, ◌<◌, ◌≤◌, List, [], ◌∷◌, ◌++◌, length, take, drop, get_or, refl}
use Rattle.std.specs.List.{All, AllByRecursion, flat_map}
use Rattle.std.specs.Int.{w32, from_be_bytes, to_be_bytes}
use Rattle.std.proofs.Common.{sym, ap, ◌∙◌, subst, arith, length-take, length-append, append_assoc}
use Rattle.std.proofs.lemmas.List.{take_at, drop_at, take-append-drop}
use Rattle.std.proofs.lemmas.List.Elements.{recursion_from_All, All-nil, All-cons, All-take, All-drop}
use Rattle.std.proofs.lemmas.Nat.{from_be_bytes-to_be_bytes_4, be_bytes_4}
use Rattle.wire_frames.specs.Frames.{Front, Whole, Wait, Fault, front, body_length, longest_body, frame, IsByte, HoldsNone, IsSplit, split, Split, and_then, frames, rest}
use Rattle.wire_frames.proofs.Splits.{IsWhole, whole_front, front_whole, front_shorter, split_whole, split_wait, split_fault, IsLeft, split_left}

-- a whole frame at the front, from its parts
front_of : (stream head body more : List ℕ) → stream ≡ head ++ (body ++ more) → length head ≡ 4 → from_be_bytes w32 head ≡ length body → length body ≤ longest_body → front stream ≡ Whole body more
front_of stream head body more parts four spells small =
    let t : take 4 stream ≡ head = ap (take 4) parts ∙ take_at head (body ++ more) 4 four in
    let d : drop 4 stream ≡ body ++ more = ap (drop 4) parts ∙ drop_at head (body ++ more) 4 four in
    let n : body_length stream ≡ length body = ap (from_be_bytes w32) t ∙ spells in
    front_whole stream body more (record {
      head = rw parts (omega (arith, length-append head (body ++ more)));
      small = rw n small;
      enough = rw (n, d) (omega (arith, length-append body more));
      body_is = rw (n, d) (sym (take_at body more (length body) refl));
      more_is = rw (n, d) (sym (drop_at body more (length body) refl));
    })

front_frame : (body more : List ℕ) → length body ≤ longest_body → front (frame body ++ more) ≡ Whole body more
front_frame body more small = front_of (frame body ++ more) (to_be_bytes w32 (length body)) body more (append_assoc (to_be_bytes w32 (length body)) body more) refl (from_be_bytes-to_be_bytes_4 (length body) (omega arith)) small

-- a read of bytes is a byte, past the end too
pub read_fits : (bytes : List ℕ) → AllByRecursion IsByte bytes → (i : ℕ) → get_or bytes i 0 < 256
read_fits [] all i = omega arith
read_fits (byte ∷ bytes) all zero = all.0
read_fits (byte ∷ bytes) all (suc i) = read_fits bytes all.1 i

-- four bytes are those of the number that they spell
pub head_bytes : (stream : List ℕ) (n : ℕ) → All IsByte stream → 4 ≤ length stream → n ≡ body_length stream → to_be_bytes w32 n ≡ take 4 stream
head_bytes stream n bytes four spelled = be_bytes_4 (take 4 stream) n (omega (arith, length-take 4 stream)) (read_fits (take 4 stream) (recursion_from_All IsByte (take 4 stream) (All-take IsByte 4 stream bytes))) spelled

-- the frame of the body is what stands there
pub record IsFramed (stream body more : List ℕ) : Type 0 where
  pub small : length body ≤ longest_body
  pub framed : stream ≡ frame body ++ more

framed_by : (stream body more : List ℕ) → All IsByte stream → IsWhole stream body more → IsFramed stream body more
framed_by stream body more bytes w =
    let n : ℕ = body_length stream in
    let long : length body ≡ body_length stream = rw w.body_is (omega (arith, length-take (body_length stream) (drop 4 stream), w.enough)) in
    let h : to_be_bytes w32 (length body) ≡ take 4 stream = head_bytes stream (length body) bytes w.head long in
    let b : body ++ more ≡ drop 4 stream = rw (w.body_is, w.more_is) (take-append-drop (body_length stream) (drop 4 stream)) in
    record {
      small = rw long w.small;
      framed = sym (append_assoc (to_be_bytes w32 (length body)) body more ∙ ap (λ x. x ++ (body ++ more)) h ∙ ap (λ x. take 4 stream ++ x) b ∙ take-append-drop 4 stream);
    }

framed : (stream body more : List ℕ) → All IsByte stream → front stream ≡ Whole body more → IsFramed stream body more
framed stream body more bytes e = framed_by stream body more bytes (whole_front stream body more e)

-- among bytes, a rest that begins with no frame is one that the function leaves
none_left : (stream : List ℕ) → All IsByte stream → HoldsNone stream → IsLeft stream
none_left stream bytes none = record { none = λ body more e. let f = framed stream body more bytes e in none body more f.small f.framed }

left_none : (stream : List ℕ) → IsLeft stream → HoldsNone stream
left_none stream l = λ body more small e. l.none body more (ap front e ∙ front_frame body more small)

-- what follows a whole frame has bytes alone
more_bytes : (stream body more : List ℕ) → All IsByte stream → IsWhole stream body more → All IsByte more
more_bytes stream body more bytes w = subst (All IsByte) (sym w.more_is) (All-drop IsByte (body_length stream) (drop 4 stream) (All-drop IsByte 4 stream bytes))

-- the frames of a split come back one by one
and_then_split : (stream body more : List ℕ) (s : Split) → IsFramed stream body more → IsSplit more s.frames s.rest → IsSplit stream (and_then body s).frames (and_then body s).rest
and_then_split stream body more s f i = record {
  whole = f.framed ∙ ap (λ x. frame body ++ x) i.whole ∙ sym (append_assoc (frame body) (flat_map frame s.frames) s.rest);
  each = All-cons (λ b. length b ≤ longest_body) body s.frames f.small i.each;
  none = i.none;
}

IsSplitUp : List ℕ → Type 0
IsSplitUp stream = IsSplit stream (frames stream) (rest stream)

unsplit : (stream : List ℕ) → IsLeft stream → split stream ≡ record { frames = []; rest = stream } → IsSplitUp stream
unfolding IsSplitUp
unsplit stream l e = subst (λ (s : Split). IsSplit stream s.frames s.rest) (sym e) (record {
  whole = refl;
  each = All-nil (λ body. length body ≤ longest_body);
  none = left_none stream l;
})

split_up_by : (stream : List ℕ) → All IsByte stream → ((more : List ℕ) → All IsByte more → length more < length stream → IsSplitUp more) → (f : Front) → front stream ≡ f → IsSplitUp stream
unfolding IsSplitUp
split_up_by stream bytes again (Whole body more) e =
    let w = whole_front stream body more e in
    subst (λ (s : Split). IsSplit stream s.frames s.rest) (sym (split_whole stream body more e))
    (and_then_split stream body more (split more) (framed stream body more bytes e) (again more (more_bytes stream body more bytes w) (front_shorter stream body more e)))
split_up_by stream bytes again Wait e = unsplit stream (record { none = λ body more w. absurd cc }) (split_wait stream e)
split_up_by stream bytes again Fault e = unsplit stream (record { none = λ body more w. absurd cc }) (split_fault stream e)

split_up_within : (n : ℕ) (stream : List ℕ) → All IsByte stream → length stream ≤ n → IsSplitUp stream
split_up_within zero stream bytes h = split_up_by stream bytes (λ more b l. absurd (omega arith)) (front stream) refl
split_up_within (suc n) stream bytes h = split_up_by stream bytes (λ more b l. split_up_within n more b (omega arith)) (front stream) refl

-- the function gives a split
pub split_up : (stream : List ℕ) → All IsByte stream → IsSplit stream (frames stream) (rest stream)
unfolding IsSplitUp
split_up stream bytes = split_up_within (length stream) stream bytes (omega arith)

only_by : (bodies : List (List ℕ)) (left : List ℕ) → AllByRecursion (λ body. length body ≤ longest_body) bodies → IsLeft left → split (flat_map frame bodies ++ left) ≡ record { frames = bodies; rest = left }
only_by [] left each l = split_left left l
only_by (body ∷ bodies) left each l =
    ap split (append_assoc (frame body) (flat_map frame bodies) left)
    ∙ split_whole (frame body ++ (flat_map frame bodies ++ left)) body (flat_map frame bodies ++ left) (front_frame body (flat_map frame bodies ++ left) each.0)
    ∙ ap (and_then body) (only_by bodies left each.1 l)

-- the rest of a list of bytes has bytes alone
left_bytes : (front left : List ℕ) → All IsByte (front ++ left) → All IsByte left
left_bytes front left bytes = subst (All IsByte) (drop_at front left (length front) refl) (All-drop IsByte (length front) (front ++ left) bytes)

-- and each split is the one that it gives
pub split_only : (stream : List ℕ) (bodies : List (List ℕ)) (left : List ℕ) → All IsByte stream → IsSplit stream bodies left → split stream ≡ record { frames = bodies; rest = left }
split_only stream bodies left bytes s =
    let b : All IsByte left = left_bytes (flat_map frame bodies) left (subst (All IsByte) s.whole bytes) in
    ap split s.whole ∙ only_by bodies left (recursion_from_All (λ body. length body ≤ longest_body) bodies s.each) (none_left left b s.none)
