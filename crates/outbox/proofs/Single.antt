-- One step of a turn.
use Rattle.std.proofs.Common.{arith, ◌≡◌, ℕ, ◌<◌, ◌≤◌, List, [], ◌∷◌, ◌++◌, true, false, Bool, length, take, refl, sym, ap, ◌∙◌, inl, inr, subst}
use Rattle.std.specs.Prelude.{Option, Some, None, ◌||◌, ◌&&◌, not, nat_lt, if◌then◌else◌}
use Rattle.std.proofs.lemmas.List.{append-nil, length-take-le}
use Rattle.std.proofs.lemmas.Bool.{cases_Bool, lt-ltb, MatchBool-at_true, MatchBool-at_false}
use Rattle.outbox.specs.Lines.{Line, Event, Readable, Declined, Answered, Writable, Ends, Fails, Worked, after, is_open, ended as ended_stage, owes, reads, cap, read_at, sent_at}
use Rattle.outbox.specs.Traffic.{Traffic, moved, with_read, with_written}
use Rattle.outbox.specs.Turns.{Turned, Moment, here, DoesAt, moves_at, pieces_at, answers_at, settles_at, HasFallen, HasNotRisen, IsTold, IsEnded, WritesOnce, Flushes, can_write, can_read, can_answer}
use Rattle.outbox.specs.Appends.{with_reply, KeepsWork}
use Rattle.outbox.proofs.Joining.{both, either, renamed, true_or, or_true}
use Rattle.outbox.specs.declared.readiness.Readiness.{Readiness}
use Rattle.outbox.specs.declared.stage.Stage.{Stage}
use Rattle.outbox.specs.declared.stage.Stage.TheVariants.{Open, Ending, Broken}

-- an ended line is not open
pub closed : (s : Stage) → is_open (ended_stage s) ≡ false
closed Open = refl
closed Ending = refl
closed Broken = refl

pub moved_none : (o : Option Traffic) → o ≡ moved [] [] o
moved_none None = refl
moved_none (Some o) = ap (λ (xs : List ℕ). Some (record { read = xs; written = o.written })) (sym (append-nil o.read)) ∙ ap (λ (xs : List ℕ). Some (record { read = o.read ++ []; written = xs })) (sym (append-nil o.written))

pub moved_read : (o : Option Traffic) (piece : List ℕ) → with_read piece o ≡ moved (piece ++ []) [] o
moved_read None piece = refl
moved_read (Some o) piece = ap (λ (xs : List ℕ). Some (record { read = o.read ++ xs; written = o.written })) (sym (append-nil piece)) ∙ ap (λ (xs : List ℕ). Some (record { read = o.read ++ (piece ++ []); written = xs })) (sym (append-nil o.written))

pub moved_written : (o : Option Traffic) (bytes : List ℕ) → with_written bytes o ≡ moved [] (bytes ++ []) o
moved_written None bytes = refl
moved_written (Some o) bytes = ap (λ (xs : List ℕ). Some (record { read = xs; written = o.written ++ bytes })) (sym (append-nil o.read)) ∙ ap (λ (xs : List ℕ). Some (record { read = o.read ++ []; written = o.written ++ xs })) (sym (append-nil bytes))

pub both_true : (b c : Bool) → b ≡ true → c ≡ true → (b && c) ≡ true
both_true true c h k = k
both_true false c h k = h

pub left_true : (b c : Bool) → (b && c) ≡ true → b ≡ true
left_true true c h = refl
left_true false c h = h

pub right_true : (b c : Bool) → (b && c) ≡ true → c ≡ true
right_true true c h = h
right_true false c h = absurd cc

pub not_true : (b : Bool) → not b ≡ true → b ≡ false
not_true true h = absurd cc
not_true false h = refl

pub clash : {X : Type 0} (b : Bool) → b ≡ true → b ≡ false → X
clash true h k = absurd cc
clash false h k = absurd cc

pub picked : {A : Type 0} (b : Bool) (x y : A) → b ≡ true → (if b then x else y) ≡ x
picked true x y h = refl
picked false x y h = absurd cc

-- one event that moves something
pub one : {C : Type 0} (m n : ℕ) (T R : C → List ℕ → C → Type 0) (I : C → Type 0) (O : C → Bool) (can : Readiness → Line → Bool) (a b : Moment C) (e : Event)
    → b.line ≡ after a.line e → b.wire ≡ moved (read_at a.line e ++ []) (sent_at a.line e ++ []) a.wire → DoesAt T R a.line e a.core b.core
    → moves_at a.line e ≡ true → can a.ready a.line ≡ true → (IsTold I a → IsTold I b) → (IsEnded O a → IsEnded O b) → pieces_at e ≤ m → answers_at e ≤ n → (settles_at e ≡ 0 → KeepsWork a.left b.left) → Turned m n T R I O can a b
one m n T R I O can a b e line wire does moves could told ends few some keeps = record {
  events = e ∷ [];
  line_is = line;
  wire_is = wire;
  core_is = (b.core, does, refl);
  few_pieces = omega (arith, few);
  few_answers = omega (arith, some);
  goes_on = λ h. inl (true_or (moves_at a.line e) false moves);
  rises = λ h. clash (moves_at a.line e || false) (true_or (moves_at a.line e) false moves) h;
  stays = λ h. clash (can a.ready a.line) could h;
  told = told;
  ended = ends;
  works = λ h. keeps (omega (arith, h));
}

-- something turned out to want a wait
pub fallen : {C : Type 0} (m n : ℕ) (T R : C → List ℕ → C → Type 0) (I : C → Type 0) (O : C → Bool) (can : Readiness → Line → Bool) (l : Line) (w : Option Traffic) (c : C) (u : Option ℕ) (r r' : Readiness)
    → HasFallen r r' → HasNotRisen r r' → can r l ≡ true → (IsTold I (here l w c u r) → IsTold I (here l w c u r')) → Turned m n T R I O can (here l w c u r) (here l w c u r')
fallen m n T R I O can l w c u r r' f down could told = record {
  events = [];
  line_is = refl;
  wire_is = moved_none w;
  core_is = refl;
  few_pieces = omega arith;
  few_answers = omega arith;
  goes_on = λ h. inr f;
  rises = λ h. down;
  stays = λ h. clash (can r l) could h;
  told = told;
  ended = λ h. h;
  works = λ h. inl refl;
}

-- nothing could be done
pub nothing : {C : Type 0} (m n : ℕ) (T R : C → List ℕ → C → Type 0) (I : C → Type 0) (O : C → Bool) (can : Readiness → Line → Bool) (a : Moment C) → can a.ready a.line ≡ false → Turned m n T R I O can a a
nothing m n T R I O can a not' = record {
  events = [];
  line_is = refl;
  wire_is = moved_none a.wire;
  core_is = refl;
  few_pieces = omega arith;
  few_answers = omega arith;
  goes_on = λ h. clash (can a.ready a.line) h not';
  rises = λ h. record { readable = λ e. e; writable = λ e. e; waiting = λ e. e };
  stays = λ h. refl;
  told = λ h. h;
  ended = λ h. h;
  works = λ h. inl refl;
}

-- ---- A write

pub written : {C : Type 0} (T R : C → List ℕ → C → Type 0) (I : C → Type 0) (O : C → Bool) (l l' : Line) (w w' : Option Traffic) (r r' : Readiness) (c : C) (u : Option ℕ)
    → can_write r l ≡ true → WritesOnce l w r l' w' r' → Turned 0 0 T R I O can_write (here l w c u r) (here l' w' c u r')
written T R I O l l' w w' r r' c u can (inl x) = one 0 0 T R I O can_write (here l w c u r) (here l' w' c u r') (Writable x.0) x.2
    (x.3 ∙ moved_written w (take x.0 l.owed)) refl (both_true (nat_lt 0 x.0) (owes l) (lt-ltb 0 x.0 x.1) (right_true r.writable (owes l) can)) can
    (λ h e. h (ap (λ (s : Readiness). s.waiting) (sym x.4) ∙ e)) (λ h o. ap (λ (y : Line). is_open y.stage) x.2 ∙ h o) (omega arith) (omega arith) (λ h. inl refl)
written T R I O l l' w w' r r' c u can (inr (inl x)) = rw (x.0, x.1, x.2) (fallen 0 0 T R I O can_write l w c u r (record r { writable = false })
    (inr (inl (left_true r.writable (owes l) can, refl))) (record { readable = λ e. e; writable = λ e. refl; waiting = λ e. e }) can (λ h. h))
written T R I O l l' w w' r r' c u can (inr (inr x)) = one 0 0 T R I O can_write (here l w c u r) (here l' w' c u r') Fails x.0
    (x.1 ∙ moved_none w) refl (or_true (is_open l.stage) (owes l) (right_true r.writable (owes l) can)) can
    (λ h e. h (ap (λ (s : Readiness). s.waiting) (sym x.2) ∙ e)) (λ h o. ap (λ (y : Line). is_open y.stage) x.0) (omega arith) (omega arith) (λ h. inl refl)

pub flushed : {C : Type 0} (T R : C → List ℕ → C → Type 0) (I : C → Type 0) (O : C → Bool) (l l' : Line) (w w' : Option Traffic) (r r' : Readiness) (c : C) (u : Option ℕ)
    → Flushes l w r l' w' r' → Turned 0 0 T R I O can_write (here l w c u r) (here l' w' c u r')
flushed T R I O l l' w w' r r' c u h = elim (cases_Bool (can_write r l)) [
  | inl e ↦ written T R I O l l' w w' r r' c u e (MatchBool-at_true (WritesOnce l w r l' w' r') ((l' ≡ l) × (w' ≡ w) × (r' ≡ r)) e h)
  | inr e ↦
      let same : (l' ≡ l) × (w' ≡ w) × (r' ≡ r) = MatchBool-at_false (WritesOnce l w r l' w' r') ((l' ≡ l) × (w' ≡ w) × (r' ≡ r)) e h in
      rw (same.0, same.1, same.2) (nothing 0 0 T R I O can_write (here l w c u r) e)
]

-- ---- A read

pub some_taken : (n : ℕ) (bytes : List ℕ) → n ≤ length bytes → 0 < n → 0 < length (take n bytes)
some_taken n bytes within some = rw (length-take-le n bytes within) some

pub took : {C : Type 0} (T R : C → List ℕ → C → Type 0) (I : C → Type 0) (O : C → Bool) (l : Line) (w w' : Option Traffic) (r : Readiness) (c c' : C) (u u' : Option ℕ) (piece : List ℕ)
    → can_read r l ≡ true → 0 < length piece → w' ≡ with_read piece w → T c piece c' × (O c' ≡ O c) → KeepsWork u u' → Turned 1 0 T R I O can_read (here l w c u r) (here l w' c' u' (record r { waiting = true }))
took T R I O l w w' r c c' u u' piece can some k t keeps =
    let open' : reads l ≡ true = right_true (r.readable && not r.waiting) (reads l) can in
    one 1 0 T R I O can_read (here l w c u r) (here l w' c' u' (record r { waiting = true })) (Readable piece) refl
    (k ∙ moved_read w piece ∙ ap (λ (xs : List ℕ). moved (xs ++ []) [] w) (sym (picked (reads l) piece [] open')))
    (open', t.0) (lt-ltb 0 (length piece) some) can (λ h e. absurd cc) (λ h o. h (sym t.1 ∙ o)) (omega arith) (omega arith) (λ h. keeps)

pub declined : {C : Type 0} (T R : C → List ℕ → C → Type 0) (I : C → Type 0) (O : C → Bool) (l l' : Line) (w w' : Option Traffic) (r : Readiness) (c c' : C) (u u' : Option ℕ) (piece : List ℕ)
    → can_read r l ≡ true → l' ≡ after l Ends → w' ≡ with_read piece w → c' ≡ c → u' ≡ u → Turned 1 0 T R I O can_read (here l w c u r) (here l' w' c' u' r)
declined T R I O l l' w w' r c c' u u' piece can line k same kept =
    let open' : reads l ≡ true = right_true (r.readable && not r.waiting) (reads l) can in
    one 1 0 T R I O can_read (here l w c u r) (here l' w' c' u' r) (Declined piece) line
    (k ∙ moved_read w piece ∙ ap (λ (xs : List ℕ). moved (xs ++ []) [] w) (sym (picked (reads l) piece [] open')))
    (open', same) (left_true (is_open l.stage) (nat_lt (length l.owed) cap) open') can (λ h e. subst I (sym same) (h e)) (λ h o. ap (λ (x : Line). is_open x.stage) line ∙ closed l.stage) (omega arith) (omega arith) (λ h. inl kept)

pub ended_now : {C : Type 0} (T R : C → List ℕ → C → Type 0) (I : C → Type 0) (O : C → Bool) (l l' : Line) (w w' : Option Traffic) (r : Readiness) (c : C) (u : Option ℕ)
    → can_read r l ≡ true → l' ≡ after l Ends → w' ≡ w → Turned 1 0 T R I O can_read (here l w c u r) (here l' w' c u r)
ended_now T R I O l l' w w' r c u can line k =
    let open' : reads l ≡ true = right_true (r.readable && not r.waiting) (reads l) can in
    one 1 0 T R I O can_read (here l w c u r) (here l' w' c u r) Ends line (k ∙ moved_none w) refl (left_true (is_open l.stage) (nat_lt (length l.owed) cap) open') can (λ h. h) (λ h o. ap (λ (x : Line). is_open x.stage) line ∙ closed l.stage) (omega arith) (omega arith) (λ h. inl refl)

pub failed_now : {C : Type 0} (T R : C → List ℕ → C → Type 0) (I : C → Type 0) (O : C → Bool) (l l' : Line) (w w' : Option Traffic) (r : Readiness) (c : C) (u : Option ℕ)
    → can_read r l ≡ true → l' ≡ after l Fails → w' ≡ w → Turned 1 0 T R I O can_read (here l w c u r) (here l' w' c u r)
failed_now T R I O l l' w w' r c u can line k =
    let open' : reads l ≡ true = right_true (r.readable && not r.waiting) (reads l) can in
    one 1 0 T R I O can_read (here l w c u r) (here l' w' c u r) Fails line (k ∙ moved_none w) refl
    (true_or (is_open l.stage) (owes l) (left_true (is_open l.stage) (nat_lt (length l.owed) cap) open')) can (λ h. h) (λ h o. ap (λ (x : Line). is_open x.stage) line) (omega arith) (omega arith) (λ h. inl refl)

pub blocked_now : {C : Type 0} (T R : C → List ℕ → C → Type 0) (I : C → Type 0) (O : C → Bool) (l : Line) (w w' : Option Traffic) (r : Readiness) (c : C) (u : Option ℕ)
    → can_read r l ≡ true → w' ≡ w → Turned 1 0 T R I O can_read (here l w c u r) (here l w' c u (record r { readable = false }))
blocked_now T R I O l w w' r c u can k = rw k (fallen 1 0 T R I O can_read l w c u r (record r { readable = false })
    (inl (left_true r.readable (not r.waiting) (left_true (r.readable && not r.waiting) (reads l) can), refl))
    (record { readable = λ e. refl; writable = λ e. e; waiting = λ e. e }) can (λ h. h))

-- ---- An answer

waits : {X : Type 0} (r : Readiness) (l : Line) → can_answer r l ≡ true → r.waiting ≡ false → X
waits r l can e = clash r.waiting (left_true r.waiting (reads l) can) e

pub replied_one : {C : Type 0} (T R : C → List ℕ → C → Type 0) (I : C → Type 0) (O : C → Bool) (l l' : Line) (w : Option Traffic) (r : Readiness) (c c' : C) (u u' : Option ℕ) (reply : List ℕ)
    → can_answer r l ≡ true → l' ≡ with_reply l reply → R c reply c' → O c' ≡ false → Turned 0 1 T R I O can_answer (here l w c u r) (here l' w c' u' r)
replied_one T R I O l l' w r c c' u u' reply can line t goes =
    let open' : reads l ≡ true = right_true r.waiting (reads l) can in
    one 0 1 T R I O can_answer (here l w c u r) (here l' w c' u' r) (Answered reply)
    (line ∙ sym (picked (reads l) (with_reply l reply) l open')) (moved_none w) (open', t) refl can
    (λ h e. waits r l can e) (λ h o. clash (O c') o goes) (omega arith) (omega arith) (λ h. absurd (omega (arith, h)))

pub worked_one : {C : Type 0} (T R : C → List ℕ → C → Type 0) (I : C → Type 0) (O : C → Bool) (l l' : Line) (w : Option Traffic) (r : Readiness) (c c' : C) (u u' : Option ℕ)
    → can_answer r l ≡ true → l' ≡ l → c' ≡ c → KeepsWork u u' → Turned 0 1 T R I O can_answer (here l w c u r) (here l' w c' u' r)
worked_one T R I O l l' w r c c' u u' can line same keeps = one 0 1 T R I O can_answer (here l w c u r) (here l' w c' u' r) Worked line (moved_none w) same refl can
    (λ h e. waits r l can e) (λ h o. ap (λ (x : Line). is_open x.stage) line ∙ h (ap O (sym same) ∙ o)) (omega arith) (omega arith) (λ h. keeps)

pub idle_one : {C : Type 0} (T R : C → List ℕ → C → Type 0) (I : C → Type 0) (O : C → Bool) (l l' : Line) (w : Option Traffic) (r : Readiness) (c c' : C) (u u' : Option ℕ)
    → can_answer r l ≡ true → I c → l' ≡ l → c' ≡ c → u' ≡ u → Turned 0 1 T R I O can_answer (here l w c u r) (here l' w c' u' (record r { waiting = false }))
idle_one T R I O l l' w r c c' u u' can none line same kept = rw (line, same, kept) (fallen 0 1 T R I O can_answer l w c u r (record r { waiting = false })
    (inr (inr (left_true r.waiting (reads l) can, refl))) (record { readable = λ e. e; writable = λ e. e; waiting = λ e. refl }) can (λ h e. none))

pub refused_one : {C : Type 0} (T R : C → List ℕ → C → Type 0) (I : C → Type 0) (O : C → Bool) (l m l' : Line) (w : Option Traffic) (r : Readiness) (c c' : C) (u u' : Option ℕ)
    → can_answer r l ≡ true → m ≡ l → l' ≡ after m Ends → c' ≡ c → Turned 0 1 T R I O can_answer (here l w c u r) (here l' w c' u' r)
refused_one T R I O l m l' w r c c' u u' can mid line same =
    let open' : reads l ≡ true = right_true r.waiting (reads l) can in
    one 0 1 T R I O can_answer (here l w c u r) (here l' w c' u' r) Ends (line ∙ ap (λ (x : Line). after x Ends) mid) (moved_none w) same
    (left_true (is_open l.stage) (nat_lt (length l.owed) cap) open') can (λ h e. waits r l can e) (λ h o. ap (λ (x : Line). is_open x.stage) line ∙ closed m.stage) (omega arith) (omega arith) (λ h. absurd (omega (arith, h)))

abbrev can_end : Readiness → Line → Bool
can_end r l = is_open l.stage

or_same : (b c : Bool) → b ≡ true → (b || c) ≡ b
or_same true c h = refl
or_same false c h = absurd cc

abbrev goes_on : {C : Type 0} → C → Bool
goes_on c = false

-- where the line is closed behind it, whatever the core answers further
with_end : {C : Type 0} (m n : ℕ) (T R : C → List ℕ → C → Type 0) (I : C → Type 0) (O : C → Bool) (can : Readiness → Line → Bool) (a b : Moment C)
    → is_open b.line.stage ≡ false → Turned m n T R I goes_on can a b → Turned m n T R I O can a b
with_end m n T R I O can a b done x = record {
  events = x.events;
  line_is = x.line_is;
  wire_is = x.wire_is;
  core_is = x.core_is;
  few_pieces = x.few_pieces;
  few_answers = x.few_answers;
  goes_on = x.goes_on;
  rises = x.rises;
  stays = x.stays;
  told = x.told;
  ended = λ h o. done;
  works = x.works;
}

pub last_one : {C : Type 0} (T R : C → List ℕ → C → Type 0) (I : C → Type 0) (O : C → Bool) (l m l' : Line) (w : Option Traffic) (r : Readiness) (c c' : C) (u u' : Option ℕ) (reply : List ℕ)
    → can_answer r l ≡ true → m ≡ with_reply l reply → R c reply c' → l' ≡ after m Ends → Turned 0 1 T R I O can_answer (here l w c u r) (here l' w c' u' r)
last_one T R I O l m l' w r c c' u u' reply can mid t line =
    let open' : is_open m.stage ≡ true = ap (λ (x : Line). is_open x.stage) mid ∙ left_true (is_open l.stage) (nat_lt (length l.owed) cap) (right_true r.waiting (reads l) can) in
    with_end 0 1 T R I O can_answer (here l w c u r) (here l' w c' u' r) (ap (λ (x : Line). is_open x.stage) line ∙ closed m.stage)
    (renamed 0 1 T R I goes_on (either can_answer can_end) can_answer (here l w c u r) (here l' w c' u' r) (or_same (can_answer r l) (can_end r l) can)
    (both 0 1 0 0 T R I goes_on can_answer can_end (here l w c u r) (here m w c' u' r) (here l' w c' u' r)
    (replied_one T R I goes_on l m w r c c' u u' reply can mid t refl)
    (one 0 0 T R I goes_on can_end (here m w c' u' r) (here l' w c' u' r) Ends line (moved_none w) refl open' open' (λ h. h) (λ h o. absurd cc) (omega arith) (omega arith) (λ h. inl refl))))
