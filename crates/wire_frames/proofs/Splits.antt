-- Splitting a stream: what a piece more does to what a stream begins with and to its frames.
use Rattle.std.specs.Prelude.{◌≡◌, ◌≢◌, ℕ, zero, suc, ◌<◌, ◌≤◌, List, [], ◌++◌, length, take, drop, nat_lt, Bool, true, false, refl}
use Rattle.std.proofs.Common.{sym, ap, ◌∙◌, subst, arith, length-drop, length-append, cond}
use Rattle.std.proofs.lemmas.List.{take-append-le, drop-append-le}
use Rattle.std.proofs.lemmas.Bool.Decides.{nat_tests}
use Rattle.std.specs.Int.{w32, from_be_bytes}
use Rattle.wire_frames.specs.Frames.{Front, Whole, Wait, Fault, front, body_length, longest_body, split_within, split, split_by, and_then, Split, after_frames, frames, rest}

-- what a whole frame at the front means
pub record IsWhole (stream body more : List ℕ) : Type 0 where
  pub head : 4 ≤ length stream
  pub small : body_length stream ≤ longest_body
  pub enough : body_length stream ≤ length (drop 4 stream)
  pub body_is : body ≡ take (body_length stream) (drop 4 stream)
  pub more_is : more ≡ drop (body_length stream) (drop 4 stream)

whole_cases : (stream body more : List ℕ) (a b c : Bool) → nat_lt (length stream) 4 ≡ a → nat_lt longest_body (body_length stream) ≡ b → nat_lt (length (drop 4 stream)) (body_length stream) ≡ c
    → (cond a Wait (cond b Fault (cond c Wait (Whole (take (body_length stream) (drop 4 stream)) (drop (body_length stream) (drop 4 stream)))))) ≡ Whole body more → IsWhole stream body more
whole_cases stream body more true b c p q r h = absurd cc
whole_cases stream body more false true c p q r h = absurd cc
whole_cases stream body more false false true p q r h = absurd cc
whole_cases stream body more false false false p q r h = record {
  head = grind (arith, nat_tests);
  small = grind (arith, nat_tests);
  enough = grind (arith, nat_tests);
  body_is = cc;
  more_is = cc;
}

pub whole_front : (stream body more : List ℕ) → front stream ≡ Whole body more → IsWhole stream body more
unfolding front
whole_front stream body more h = whole_cases stream body more _ _ _ refl refl refl h

pub front_whole : (stream body more : List ℕ) → IsWhole stream body more → front stream ≡ Whole body more
unfolding front
front_whole stream body more w = grind (arith, nat_tests, w.head, w.small, w.enough, w.body_is, w.more_is)

-- a whole frame stays one whatever follows
pub front-append : (stream more body left : List ℕ) → front stream ≡ Whole body left → front (stream ++ more) ≡ Whole body (left ++ more)
front-append stream more body left h =
    let w = whole_front stream body left h in
    let t : take 4 (stream ++ more) ≡ take 4 stream = take-append-le 4 stream more w.head in
    let d : drop 4 (stream ++ more) ≡ drop 4 stream ++ more = drop-append-le 4 stream more w.head in
    let n : body_length (stream ++ more) ≡ body_length stream = ap (from_be_bytes w32) t in
    front_whole (stream ++ more) body (left ++ more) (record {
      head = omega (arith, length-append stream more, w.head);
      small = subst (λ k. k ≤ longest_body) (sym n) w.small;
      enough = rw (n, d) (omega (arith, length-append (drop 4 stream) more, w.enough));
      body_is = rw (n, d) (w.body_is ∙ sym (take-append-le (body_length stream) (drop 4 stream) more w.enough));
      more_is = rw (n, d) (ap (λ x. x ++ more) w.more_is ∙ sym (drop-append-le (body_length stream) (drop 4 stream) more w.enough));
    })

-- what follows a whole frame is shorter
pub front_shorter : (stream body more : List ℕ) → front stream ≡ Whole body more → length more < length stream
front_shorter stream body more h =
    let w = whole_front stream body more h in
    rw w.more_is (omega (arith, length-drop (body_length stream) (drop 4 stream), length-drop 4 stream, w.head))

pub front_short : (stream : List ℕ) → length stream < 4 → front stream ≡ Wait
unfolding front
front_short stream h = grind (arith, nat_tests)

-- as much fuel as bytes is enough
enough : (n m : ℕ) (stream : List ℕ) → length stream ≤ n → length stream ≤ m → split_within n stream ≡ split_within m stream
unfolding split_within
enough zero zero stream p q = refl
enough zero (suc m) stream p q = sym (ap (λ f. split_by f stream (split_within m)) (front_short stream (omega arith)))
enough (suc n) zero stream p q = ap (λ f. split_by f stream (split_within n)) (front_short stream (omega arith))
enough (suc n) (suc m) stream p q = by_front (λ left k l. enough n m left k l) (front stream) refl
  where
    by_front : ((left : List ℕ) → length left ≤ n → length left ≤ m → split_within n left ≡ split_within m left) → (f : Front) → front stream ≡ f → split_by f stream (split_within n) ≡ split_by f stream (split_within m)
    by_front again (Whole body more) e = let l = front_shorter stream body more e in ap (and_then body) (again more (omega arith) (omega arith))
    by_front again Wait e = refl
    by_front again Fault e = refl

split_suc : (stream : List ℕ) → split stream ≡ split_by (front stream) stream (split_within (length stream))
unfolding split split_within
split_suc stream = enough (length stream) (suc (length stream)) stream (omega arith) (omega arith)

-- the step at a whole frame, and the end
pub split_whole : (stream body more : List ℕ) → front stream ≡ Whole body more → split stream ≡ and_then body (split more)
unfolding split
split_whole stream body more h =
    let l = front_shorter stream body more h in
    split_suc stream ∙ ap (λ f. split_by f stream (split_within (length stream))) h ∙ ap (and_then body) (enough (length stream) (length more) more (omega arith) (omega arith))

pub split_wait : (stream : List ℕ) → front stream ≡ Wait → split stream ≡ record { frames = []; rest = stream }
split_wait stream h = split_suc stream ∙ ap (λ f. split_by f stream (split_within (length stream))) h

pub split_fault : (stream : List ℕ) → front stream ≡ Fault → split stream ≡ record { frames = []; rest = stream }
split_fault stream h = split_suc stream ∙ ap (λ f. split_by f stream (split_within (length stream))) h

IsMore : List ℕ → List ℕ → Type 0
IsMore more stream = split (stream ++ more) ≡ after_frames (frames stream) (split (rest stream ++ more))

more_by : (stream more : List ℕ) → ((left : List ℕ) → length left < length stream → IsMore more left) → (f : Front) → front stream ≡ f → IsMore more stream
unfolding IsMore
more_by stream more again (Whole body left) e =
    split_whole (stream ++ more) body (left ++ more) (front-append stream more body left e)
    ∙ ap (and_then body) (again left (front_shorter stream body left e))
    ∙ sym (ap (λ (s : Split). after_frames s.frames (split (s.rest ++ more))) (split_whole stream body left e))
more_by stream more again Wait e = sym (ap (λ (s : Split). after_frames s.frames (split (s.rest ++ more))) (split_wait stream e))
more_by stream more again Fault e = sym (ap (λ (s : Split). after_frames s.frames (split (s.rest ++ more))) (split_fault stream e))

split_more : (n : ℕ) (stream more : List ℕ) → length stream ≤ n → IsMore more stream
split_more zero stream more h = more_by stream more (λ left l. absurd (omega arith)) (front stream) refl
split_more (suc n) stream more h = more_by stream more (λ left l. split_more n left more (omega arith)) (front stream) refl

-- A stream's frames are those of any prefix, then those of that prefix's rest with what follows, and its rest is the rest of the latter.
pub split-append : (stream more : List ℕ) → split (stream ++ more) ≡ after_frames (frames stream) (split (rest stream ++ more))
unfolding IsMore
split-append stream more = split_more (length stream) stream more (omega arith)

-- what is left begins with no whole frame
pub record IsLeft (stream : List ℕ) : Type 0 where
  pub none : (body more : List ℕ) → front stream ≢ Whole body more

left_by : (stream : List ℕ) → ((more : List ℕ) → length more < length stream → IsLeft (rest more)) → (f : Front) → front stream ≡ f → IsLeft (rest stream)
left_by stream again (Whole body more) e = subst (λ (s : Split). IsLeft s.rest) (sym (split_whole stream body more e)) (again more (front_shorter stream body more e))
left_by stream again Wait e = subst (λ (s : Split). IsLeft s.rest) (sym (split_wait stream e)) (record { none = λ body more w. cc })
left_by stream again Fault e = subst (λ (s : Split). IsLeft s.rest) (sym (split_fault stream e)) (record { none = λ body more w. cc })

left_within : (n : ℕ) (stream : List ℕ) → length stream ≤ n → IsLeft (rest stream)
left_within zero stream h = left_by stream (λ more l. absurd (omega arith)) (front stream) refl
left_within (suc n) stream h = left_by stream (λ more l. left_within n more (omega arith)) (front stream) refl

pub rest_is_left : (stream : List ℕ) → IsLeft (rest stream)
rest_is_left stream = left_within (length stream) stream (omega arith)

stop_by : (stream : List ℕ) → IsLeft stream → (f : Front) → front stream ≡ f → split stream ≡ record { frames = []; rest = stream }
stop_by stream l (Whole body more) e = absurd (l.none body more e)
stop_by stream l Wait e = split_wait stream e
stop_by stream l Fault e = split_fault stream e

-- and is not split further
pub split_left : (stream : List ℕ) → IsLeft stream → split stream ≡ record { frames = []; rest = stream }
split_left stream l = stop_by stream l (front stream) refl

-- a fault stays one whatever follows
fault_cases : (stream : List ℕ) (a b c : Bool) → nat_lt (length stream) 4 ≡ a → nat_lt longest_body (body_length stream) ≡ b
    → (cond a Wait (cond b Fault (cond c Wait (Whole (take (body_length stream) (drop 4 stream)) (drop (body_length stream) (drop 4 stream)))))) ≡ Fault → (4 ≤ length stream) × (longest_body < body_length stream)
fault_cases stream true b c p q h = absurd cc
fault_cases stream false true c p q h = (grind (arith, nat_tests), grind (arith, nat_tests))
fault_cases stream false false true p q h = absurd cc
fault_cases stream false false false p q h = absurd cc

fault_front : (stream : List ℕ) → front stream ≡ Fault → (4 ≤ length stream) × (longest_body < body_length stream)
unfolding front
fault_front stream h = fault_cases stream _ _ _ refl refl h

front_fault : (stream : List ℕ) → 4 ≤ length stream → longest_body < body_length stream → front stream ≡ Fault
unfolding front
front_fault stream h l = grind (arith, nat_tests)

pub fault-append : (stream more : List ℕ) → front stream ≡ Fault → front (stream ++ more) ≡ Fault
fault-append stream more h =
    let w = fault_front stream h in
    let t : take 4 (stream ++ more) ≡ take 4 stream = take-append-le 4 stream more w.0 in
    let n : body_length (stream ++ more) ≡ body_length stream = ap (from_be_bytes w32) t in
    front_fault (stream ++ more) (omega (arith, length-append stream more, w.0)) (rw n w.1)
