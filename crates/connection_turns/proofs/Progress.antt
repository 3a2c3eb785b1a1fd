-- A turn that goes on, by each of its plans.
use Rattle.std.proofs.Common.{◌≡◌, ℕ, List, [], ◌∷◌, ◌++◌, Bool, true, false, Option, Some, None, take, refl, sym, ap, ◌∙◌, subst, inl, inr}
use Rattle.std.specs.Prelude.{◌||◌, nat_lt, if◌then◌else◌}
use Rattle.std.proofs.lemmas.Bool.{and_from, and_parts, cases_Bool, false≢true, lt-ltb, or_right, MatchBool-at_true, MatchBool-at_false}
use Rattle.std.proofs.lemmas.List.{append-nil}
use Rattle.outbox.specs.Lines.{Line, Event, Fails, Writable, after, is_open, owes, read_at, sent_at}
use Rattle.outbox.specs.Traffic.{Traffic, moved, with_written}
use Rattle.outbox.specs.Turns.{Advances, DoesAt, Flushes, HasFallen, HasNotRisen, Moment, Turned, WritesOnce, can_answer, can_reply, can_write, here, moves_at}
use Rattle.outbox.specs.declared.readiness.Readiness.{Readiness}
use Rattle.connection_turns.specs.Turning.{Progresses, dried, moment_of}
use Rattle.connection_turns.specs.declared.connection.Connection.{Connection}

pub progressed : {C : Type 0} (m n : ℕ) (takes answers : C → List ℕ → C → Type 0) (idle : C → Type 0) (over : C → Bool) (can : Readiness → Line → Bool) (old new : Moment C)
    → Turned m n takes answers idle over can old new → Progresses takes answers idle (can old.ready old.line) old new
progressed m n takes answers idle over can old new t =
    record { turn = record { events = t.events; line_is = t.line_is; wire_is = t.wire_is; core_is = t.core_is }; goes_on = t.goes_on; rises = t.rises; told = t.told; works = t.works }

-- ---- A write

still : (o : Option Traffic) → o ≡ moved [] [] o
still None = refl
still (Some o) = λ i. Some (record { read = sym (append-nil o.read) i; written = sym (append-nil o.written) i })

wrote : (o : Option Traffic) (bytes : List ℕ) → with_written bytes o ≡ moved [] (bytes ++ []) o
wrote None bytes = refl
wrote (Some o) bytes = λ i. Some (record { read = sym (append-nil o.read) i; written = o.written ++ sym (append-nil bytes) i })

module _ {C : Type 0} (takes answers : C → List ℕ → C → Type 0) (idle : C → Type 0) (line line' : Line) (wire wire' : Option Traffic) (ready ready' : Readiness) (core : C) (left : Option ℕ) where
  one : (e : Event) → line' ≡ after line e → wire' ≡ moved (read_at line e ++ []) (sent_at line e ++ []) wire → DoesAt takes answers line e core core → moves_at line e ≡ true → ready'.waiting ≡ ready.waiting
      → Progresses takes answers idle (can_write ready line) (here line wire core left ready) (here line' wire' core left ready')
  one e line_is wire_is does moved_one same =
      let some : (moves_at line e || false) ≡ true = ap (λ b. b || false) moved_one in
      record {
        turn = record { events = e ∷ []; line_is = line_is; wire_is = wire_is; core_is = (core, does, refl) };
        goes_on = λ h. inl some;
        rises = λ h. absurd (false≢true (sym h ∙ some));
        told = λ h k. h (sym same ∙ k);
        works = λ h. inl refl;
      }

  none : line' ≡ line → wire' ≡ wire → (can_write ready line ≡ true → HasFallen ready ready') → HasNotRisen ready ready' → ready'.waiting ≡ ready.waiting
      → Progresses takes answers idle (can_write ready line) (here line wire core left ready) (here line' wire' core left ready')
  none same quiet falls down waits = record {
    turn = record { events = []; line_is = same; wire_is = quiet ∙ still wire; core_is = refl };
    goes_on = λ h. inr (falls h);
    rises = λ h. down;
    told = λ h k. h (sym waits ∙ k);
    works = λ h. inl refl;
  }

  went : can_write ready line ≡ true → WritesOnce line wire ready line' wire' ready' → Progresses takes answers idle (can_write ready line) (here line wire core left ready) (here line' wire' core left ready')
  went can (inl x) = one (Writable x.0) x.2 (x.3 ∙ wrote wire (take x.0 line.owed)) refl (and_from (nat_lt 0 x.0) (owes line) (lt-ltb 0 x.0 x.1) (and_parts ready.writable (owes line) can).1) (ap (λ (r : Readiness). r.waiting) x.4)
  went can (inr (inl x)) = none x.0 x.1 (λ h. rw x.2 (inr (inl ((and_parts ready.writable (owes line) can).0, refl)))) (rw x.2 (record { readable = λ e. e; writable = λ e. refl; waiting = λ e. e })) (ap (λ (r : Readiness). r.waiting) x.2)
  went can (inr (inr x)) = one Fails x.0 (x.1 ∙ still wire) refl (or_right (is_open line.stage) (owes line) (and_parts ready.writable (owes line) can).1) (ap (λ (r : Readiness). r.waiting) x.2)

pub only_written : {C : Type 0} (takes answers : C → List ℕ → C → Type 0) (idle : C → Type 0) (line line' : Line) (wire wire' : Option Traffic) (ready ready' : Readiness) (core : C) (left : Option ℕ)
    → Flushes line wire ready line' wire' ready' → Progresses takes answers idle (can_write ready line) (here line wire core left ready) (here line' wire' core left ready')
only_written takes answers idle line line' wire wire' ready ready' core left h = elim (cases_Bool (can_write ready line)) [
  | inl can ↦ went takes answers idle line line' wire wire' ready ready' core left can (MatchBool-at_true _ _ can h)
  | inr cannot ↦
      let same : (line' ≡ line) × (wire' ≡ wire) × (ready' ≡ ready) = MatchBool-at_false _ _ cannot h in
      none takes answers idle line line' wire wire' ready ready' core left same.0 same.1 (λ can. absurd (false≢true (sym cannot ∙ can))) (rw same.2 (record { readable = λ e. e; writable = λ e. e; waiting = λ e. e })) (ap (λ (r : Readiness). r.waiting) same.2)
]

-- a turn that answers may write, too
pub answered : {C : Type 0} (takes answers : C → List ℕ → C → Type 0) (idle : C → Type 0) (old new : Moment C)
    → Progresses takes answers idle (can_reply old.ready old.line) old new → Progresses takes answers idle (can_answer old.ready old.line) old new
answered takes answers idle old new p = record { turn = p.turn; told = p.told; goes_on = λ h. p.goes_on (ap (λ (b : Bool). b || can_write old.ready old.line) h); rises = p.rises; works = p.works }

-- a read that is known to want a wait is one more thing that does
fallen_more : (old new : Readiness) → HasFallen old new → HasFallen old (record { readable = false; writable = new.writable; waiting = new.waiting })
fallen_more old new h = elim h [ inl e ↦ inl (e.0, refl) | inr k ↦ inr k ]

pub drained : {S C : Type 0} (takes answers : C → List ℕ → C → Type 0) (idle : C → Type 0) (can : Bool) (old : Moment C) (told : S → Option Traffic) (core : C) (left : Option ℕ) (b b' : Connection S) (is_drained : Bool)
    → b' ≡ (if is_drained then dried b else b) → Progresses takes answers idle can old (moment_of told core left b) → Progresses takes answers idle can old (moment_of told core left b')
drained {S} {C} takes answers idle can old told core left b b' true e p = subst (λ (x : Connection S). Progresses takes answers idle can old (moment_of told core left x)) (sym e) (record {
  turn = p.turn;
  goes_on = λ h. elim (p.goes_on h) [ inl k ↦ inl k | inr k ↦ inr (fallen_more old.ready b.ready k) ];
  rises = λ h. let r = p.rises h in record { readable = λ k. refl; writable = r.writable; waiting = r.waiting };
  told = p.told;
  works = p.works;
})
drained {S} {C} takes answers idle can old told core left b b' false e p = subst (λ (x : Connection S). Progresses takes answers idle can old (moment_of told core left x)) (sym e) p

-- the request has come as near, whether a further read would wait or not
pub nearer : {S C : Type 0} (takes answers : C → List ℕ → C → Type 0) (old : Moment C) (told : S → Option Traffic) (core : C) (left : Option ℕ) (b b' : Connection S) (is_drained : Bool)
    → b' ≡ (if is_drained then dried b else b) → Advances takes answers old (moment_of told core left b) → Advances takes answers old (moment_of told core left b')
nearer takes answers old told core left b b' true e p = subst (λ x. Advances takes answers old (moment_of told core left x)) (sym e) p
nearer takes answers old told core left b b' false e p = subst (λ x. Advances takes answers old (moment_of told core left x)) (sym e) p
