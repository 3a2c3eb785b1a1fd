-- Turns one after another.
use Rattle.std.proofs.Common.{◌≡◌, ℕ, ◌+◌, ◌≤◌, List, [], ◌∷◌, ◌++◌, true, false, Bool, refl, sym, ap, ◌∙◌, inl, inr, subst, append_assoc, arith}
use Rattle.std.specs.Prelude.{Option, Some, None, ◌||◌, ◌&&◌, not, ◌⊎◌}
use Rattle.std.proofs.lemmas.Bool.{cases_Bool}
use Rattle.outbox.specs.Lines.{Line, Event, after, run, gathered, read_at, sent_at, read, sent, reads}
use Rattle.outbox.specs.Appends.{IsLess, KeepsWork}
use Rattle.outbox.specs.Traffic.{Traffic, moved}
use Rattle.outbox.specs.Turns.{Turned, Moment, DoesAll, moves, moves_at, HasFallen, HasNotRisen, count_of, pieces_at, answers_at, settles_at, most_requests, can_write, can_read, can_answer, can_reply, can_go_on}
use Rattle.outbox.specs.declared.readiness.Readiness.{Readiness}

pub run-append : (line : Line) (es fs : List Event) → run line (es ++ fs) ≡ run (run line es) fs
run-append line [] fs = refl
run-append line (e ∷ es) fs = run-append (after line e) es fs

gathered-append : (at : Line → Event → List ℕ) (line : Line) (es fs : List Event) → gathered at line (es ++ fs) ≡ gathered at line es ++ gathered at (run line es) fs
gathered-append at line [] fs = refl
gathered-append at line (e ∷ es) fs = ap (λ (xs : List ℕ). at line e ++ xs) (gathered-append at (after line e) es fs) ∙ sym (append_assoc (at line e) (gathered at (after line e) es) (gathered at (run (after line e) es) fs))

or_assoc : (b c d : Bool) → (b || (c || d)) ≡ ((b || c) || d)
or_assoc true c d = refl
or_assoc false c d = refl

moves-append : (line : Line) (es fs : List Event) → moves line (es ++ fs) ≡ (moves line es || moves (run line es) fs)
moves-append line [] fs = refl
moves-append line (e ∷ es) fs = ap (λ (b : Bool). moves_at line e || b) (moves-append (after line e) es fs) ∙ or_assoc (moves_at line e) (moves (after line e) es) (moves (run (after line e) es) fs)

pub count-append : (at : Event → ℕ) (es fs : List Event) → count_of at (es ++ fs) ≡ count_of at es + count_of at fs
count-append at [] fs = omega arith
count-append at (e ∷ es) fs = let i : count_of at (es ++ fs) ≡ count_of at es + count_of at fs = count-append at es fs in omega (arith, i)

pub does_both : {C : Type 0} (T R : C → List ℕ → C → Type 0) (line : Line) (es fs : List Event) (a b c : C) → DoesAll T R line es a b → DoesAll T R (run line es) fs b c → DoesAll T R line (es ++ fs) a c
does_both {C} T R line [] fs a b c h k = subst (λ (x : C). DoesAll T R line fs x c) h k
does_both {C} T R line (e ∷ es) fs a b c h k = (h.0, h.1, does_both T R (after line e) es fs h.0 b c h.2 k)

pub moved_twice : (o : Option Traffic) (p q s t : List ℕ) → moved q t (moved p s o) ≡ moved (p ++ q) (s ++ t) o
moved_twice None p q s t = refl
moved_twice (Some o) p q s t = ap (λ (xs : List ℕ). Some (record { read = xs; written = (o.written ++ s) ++ t })) (append_assoc o.read p q) ∙ ap (λ (xs : List ℕ). Some (record { read = o.read ++ (p ++ q); written = xs })) (append_assoc o.written s t)

pub or_true : (b c : Bool) → c ≡ true → (b || c) ≡ true
or_true true c h = refl
or_true false c h = h

pub true_or : (b c : Bool) → b ≡ true → (b || c) ≡ true
true_or true c h = refl
true_or false c h = absurd cc

or_false : (b c : Bool) → (b || c) ≡ false → (b ≡ false) × (c ≡ false)
or_false true c h = absurd cc
or_false false c h = (refl, h)

or_right : (b c : Bool) → b ≡ false → (b || c) ≡ true → c ≡ true
or_right true c h k = absurd cc
or_right false c h k = k

-- what has fallen stays down
stays_down : (a b c : Readiness) → HasFallen a b → HasNotRisen b c → HasFallen a c
stays_down a b c (inl x) h = inl (x.0, h.readable x.1)
stays_down a b c (inr (inl x)) h = inr (inl (x.0, h.writable x.1))
stays_down a b c (inr (inr x)) h = inr (inr (x.0, h.waiting x.1))

down_twice : (a b c : Readiness) → HasNotRisen a b → HasNotRisen b c → HasNotRisen a c
down_twice a b c h k = record { readable = λ e. k.readable (h.readable e); writable = λ e. k.writable (h.writable e); waiting = λ e. k.waiting (h.waiting e) }

goes_on_first : (a b c : Readiness) (m n : Bool) → (m ≡ true) ⊎ HasFallen a b → (n ≡ false → HasNotRisen b c) → ((m || n) ≡ true) ⊎ HasFallen a c
goes_on_first a b c m n (inl e) k = inl (true_or m n e)
goes_on_first a b c m n (inr f) k = elim (cases_Bool n) [ inl e ↦ inl (or_true m n e) | inr e ↦ inr (stays_down a b c f (k e)) ]

goes_on_next : (a b c : Readiness) (m n : Bool) → b ≡ a → (n ≡ true) ⊎ HasFallen b c → ((m || n) ≡ true) ⊎ HasFallen a c
goes_on_next a b c m n e (inl h) = inl (or_true m n h)
goes_on_next a b c m n e (inr f) = inr (subst (λ (x : Readiness). HasFallen x c) e f)

or_twice : (b : Bool) → (b || b) ≡ b
or_twice true = refl
or_twice false = refl

any_of_four : (w r s l : Bool) → (((w || ((r && not s) && l)) || (s && l)) || w) ≡ ((r || s) && l || w)
any_of_four true true true true = refl
any_of_four true true true false = refl
any_of_four true true false true = refl
any_of_four true true false false = refl
any_of_four true false true true = refl
any_of_four true false true false = refl
any_of_four true false false true = refl
any_of_four true false false false = refl
any_of_four false true true true = refl
any_of_four false true true false = refl
any_of_four false true false true = refl
any_of_four false true false false = refl
any_of_four false false true true = refl
any_of_four false false true false = refl
any_of_four false false false true = refl
any_of_four false false false false = refl

pub less_twice : (a b c : Option ℕ) → IsLess a b → IsLess b c → IsLess a c
less_twice a b None h k = k
less_twice None b (Some c) h k = record {}
less_twice (Some a) None (Some c) h k = absurd h
less_twice (Some a) (Some b) (Some c) h k = omega (arith, h, k)

keeps_twice : (a b c : Option ℕ) → KeepsWork a b → KeepsWork b c → KeepsWork a c
keeps_twice a b c (inl e) k = subst (λ (x : Option ℕ). KeepsWork x c) e k
keeps_twice a b c (inr h) (inl e) = inr (subst (λ (x : Option ℕ). IsLess a x) (sym e) h)
keeps_twice a b c (inr h) (inr k) = inr (less_twice a b c h k)

-- one or the other may be done
abbrev pub either : (Readiness → Line → Bool) → (Readiness → Line → Bool) → Readiness → Line → Bool
either p q ready line = p ready line || q ready line

moves_both : {C : Type 0} (m n m' n' : ℕ) (T R : C → List ℕ → C → Type 0) (I : C → Type 0) (O : C → Bool) (p q : Readiness → Line → Bool) (a b c : Moment C) (x : Turned m n T R I O p a b) (y : Turned m' n' T R I O q b c)
    → moves a.line (x.events ++ y.events) ≡ (moves a.line x.events || moves b.line y.events)
moves_both m n m' n' T R I O p q a b c x y = moves-append a.line x.events y.events ∙ ap (λ (l : Line). moves a.line x.events || moves l y.events) (sym x.line_is)

-- a turn after a turn is a turn
pub both : {C : Type 0} (m n m' n' : ℕ) (T R : C → List ℕ → C → Type 0) (I : C → Type 0) (O : C → Bool) (p q : Readiness → Line → Bool) (a b c : Moment C) → Turned m n T R I O p a b → Turned m' n' T R I O q b c → Turned (m + m') (n + n') T R I O (either p q) a c
both {C} m n m' n' T R I O p q a b c x y = record {
  events = x.events ++ y.events;
  line_is = y.line_is ∙ ap (λ (l : Line). run l y.events) x.line_is ∙ sym (run-append a.line x.events y.events);
  wire_is = y.wire_is
      ∙ ap (λ (l : Line). moved (read l y.events) (sent l y.events) b.wire) x.line_is
      ∙ ap (λ (w : Option Traffic). moved (read (run a.line x.events) y.events) (sent (run a.line x.events) y.events) w) x.wire_is
      ∙ moved_twice a.wire (read a.line x.events) (read (run a.line x.events) y.events) (sent a.line x.events) (sent (run a.line x.events) y.events)
      ∙ ap (λ (xs : List ℕ). moved xs (sent a.line x.events ++ sent (run a.line x.events) y.events) a.wire) (sym (gathered-append read_at a.line x.events y.events))
      ∙ ap (λ (xs : List ℕ). moved (read a.line (x.events ++ y.events)) xs a.wire) (sym (gathered-append sent_at a.line x.events y.events));
  core_is = does_both T R a.line x.events y.events a.core b.core c.core x.core_is (subst (λ (l : Line). DoesAll T R l y.events b.core c.core) x.line_is y.core_is);
  few_pieces = (let e = count-append pieces_at x.events y.events in let f = x.few_pieces in let g = y.few_pieces in omega (arith, e, f, g));
  few_answers = (let e = count-append answers_at x.events y.events in let f = x.few_answers in let g = y.few_answers in omega (arith, e, f, g));
  goes_on = λ h. subst (λ (v : Bool). (v ≡ true) ⊎ HasFallen a.ready c.ready) (sym (moves_both m n m' n' T R I O p q a b c x y))
      (elim (cases_Bool (p a.ready a.line)) [
        | inl e ↦ goes_on_first a.ready b.ready c.ready (moves a.line x.events) (moves b.line y.events) (x.goes_on e) y.rises
        | inr e ↦ goes_on_next a.ready b.ready c.ready (moves a.line x.events) (moves b.line y.events) (ap (λ (m : Moment C). m.ready) (x.stays e))
            (y.goes_on (ap (λ (m : Moment C). q m.ready m.line) (x.stays e) ∙ or_right (p a.ready a.line) (q a.ready a.line) e h))
      ]);
  rises = λ h.
      let f : (moves a.line x.events ≡ false) × (moves b.line y.events ≡ false) = or_false (moves a.line x.events) (moves b.line y.events) (sym (moves_both m n m' n' T R I O p q a b c x y) ∙ h) in
      down_twice a.ready b.ready c.ready (x.rises f.0) (y.rises f.1);
  stays = λ h.
      let f : (p a.ready a.line ≡ false) × (q a.ready a.line ≡ false) = or_false (p a.ready a.line) (q a.ready a.line) h in
      y.stays (ap (λ (m : Moment C). q m.ready m.line) (x.stays f.0) ∙ f.1) ∙ x.stays f.0;
  told = λ h. y.told (x.told h);
  ended = λ h. y.ended (x.ended h);
  works = λ h. (let e = count-append settles_at x.events y.events in keeps_twice a.left b.left c.left (x.works (omega (arith, e, h))) (y.works (omega (arith, e, h))));
}

-- a turn, where it could go on under another name
pub renamed : {C : Type 0} (m n : ℕ) (T R : C → List ℕ → C → Type 0) (I : C → Type 0) (O : C → Bool) (p q : Readiness → Line → Bool) (a b : Moment C) → p a.ready a.line ≡ q a.ready a.line → Turned m n T R I O p a b → Turned m n T R I O q a b
renamed m n T R I O p q a b e x = record {
  events = x.events;
  line_is = x.line_is;
  wire_is = x.wire_is;
  core_is = x.core_is;
  few_pieces = x.few_pieces;
  few_answers = x.few_answers;
  goes_on = λ h. x.goes_on (e ∙ h);
  rises = x.rises;
  stays = λ h. x.stays (e ∙ h);
  told = x.told;
  ended = x.ended;
  works = x.works;
}

-- a turn with more that it may have read and written
pub loosened : {C : Type 0} (m n m' n' : ℕ) (T R : C → List ℕ → C → Type 0) (I : C → Type 0) (O : C → Bool) (p : Readiness → Line → Bool) (a b : Moment C) → m ≤ m' → n ≤ n' → Turned m n T R I O p a b → Turned m' n' T R I O p a b
loosened m n m' n' T R I O p a b h k x = record {
  events = x.events;
  line_is = x.line_is;
  wire_is = x.wire_is;
  core_is = x.core_is;
  few_pieces = (let f = x.few_pieces in omega (arith, f, h));
  few_answers = (let f = x.few_answers in omega (arith, f, k));
  goes_on = x.goes_on;
  rises = x.rises;
  stays = x.stays;
  told = x.told;
  ended = x.ended;
  works = x.works;
}

-- one request more
pub again : {C : Type 0} (n : ℕ) (T R : C → List ℕ → C → Type 0) (I : C → Type 0) (O : C → Bool) (p : Readiness → Line → Bool) (a b c : Moment C) → Turned 0 n T R I O p a b → Turned 0 1 T R I O p b c → Turned 0 (n + 1) T R I O p a c
again n T R I O p a b c x y = renamed 0 (n + 1) T R I O (either p p) p a c (or_twice (p a.ready a.line)) (both 0 n 0 1 T R I O p p a b c x y)

-- a write, a read, answers, and a write again
pub four : {C : Type 0} (T R : C → List ℕ → C → Type 0) (I : C → Type 0) (O : C → Bool) (a b c d e : Moment C)
    → Turned 0 0 T R I O can_write a b → Turned 1 0 T R I O can_read b c → Turned 0 most_requests T R I O can_answer c d → Turned 0 0 T R I O can_write d e → Turned 1 most_requests T R I O can_go_on a e
four T R I O a b c d e v x y z =
    renamed 1 most_requests T R I O (either (either (either can_write can_read) can_answer) can_write) can_go_on a e
    (any_of_four (can_write a.ready a.line) a.ready.readable a.ready.waiting (reads a.line))
    (both 1 most_requests 0 0 T R I O (either (either can_write can_read) can_answer) can_write a d e
    (both 1 0 0 most_requests T R I O (either can_write can_read) can_answer a c d
    (both 0 0 1 0 T R I O can_write can_read a b c v x) y) z)

write_again : (w a : Bool) → ((w || a) || w) ≡ (a || w)
write_again true true = refl
write_again true false = refl
write_again false true = refl
write_again false false = refl

-- a write, an answer, and a write again
pub three : {C : Type 0} (T R : C → List ℕ → C → Type 0) (I : C → Type 0) (O : C → Bool) (a b c d : Moment C)
    → Turned 0 0 T R I O can_write a b → Turned 0 1 T R I O can_answer b c → Turned 0 0 T R I O can_write c d → Turned 0 1 T R I O can_reply a d
three T R I O a b c d v x y =
    renamed 0 1 T R I O (either (either can_write can_answer) can_write) can_reply a d (write_again (can_write a.ready a.line) (can_answer a.ready a.line))
    (both 0 1 0 0 T R I O (either can_write can_answer) can_write a c d
    (both 0 0 0 1 T R I O can_write can_answer a b c v x) y)
