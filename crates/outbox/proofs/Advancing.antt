-- A request that is answered between two writes comes nearer to its reply.
use Rattle.std.proofs.Common.{arith, ◌≡◌, ℕ, ◌+◌, ◌<◌, ◌≤◌, List, [], ◌∷◌, ◌++◌, true, false, length, refl, sym, ap, ◌∙◌, inl, inr, subst}
use Rattle.std.specs.Prelude.{Option, Bool, IsFalse, ◌⊎◌, ◌&&◌, not, nat_lt}
use Rattle.std.proofs.lemmas.Bool.{cases_Bool, lt-ltb, ltb-true, MatchBool-at_true, MatchBool-at_false}
use Rattle.std.proofs.lemmas.List.{length-drop}
use Rattle.outbox.specs.Appends.{IsLess, KeepsWork, Shares, with_reply}
use Rattle.outbox.specs.Lines.{Line, Event, Answered, cap, is_open, reads, run}
use Rattle.outbox.specs.Traffic.{Traffic}
use Rattle.outbox.specs.Turns.{Advances, DoesAll, Flushes, GivesSome, GoesOn, Moment, Turned, WritesOnce, can_answer, can_read, can_write, count_of, here, replies_at}
use Rattle.outbox.specs.declared.readiness.Readiness.{Readiness}
use Rattle.outbox.proofs.Joining.{count-append, does_both, less_twice, run-append}
use Rattle.outbox.proofs.Single.{both_true, clash, flushed, left_true, picked, right_true}

-- ---- A reply among what happened

behind_some : {C : Type 0} (T R : C → List ℕ → C → Type 0) (l m n : Line) (c d e : C) (es : List Event) → GivesSome T R l c m d → n ≡ run m es → DoesAll T R m es d e → GivesSome T R l c n e
behind_some T R l m n c d e es x line core = record {
  events = x.events ++ es;
  line_is = line ∙ ap (λ (y : Line). run y es) x.line_is ∙ sym (run-append l x.events es);
  core_is = does_both T R l x.events es c d e x.core_is (subst (λ (y : Line). DoesAll T R y es d e) x.line_is core);
  some = (let k : count_of replies_at (x.events ++ es) ≡ count_of replies_at x.events + count_of replies_at es = count-append replies_at x.events es in let s = x.some in omega (arith, k, s));
}

before_some : {C : Type 0} (T R : C → List ℕ → C → Type 0) (l m n : Line) (c d e : C) (es : List Event) → m ≡ run l es → DoesAll T R l es c d → GivesSome T R m d n e → GivesSome T R l c n e
before_some T R l m n c d e es line core x = record {
  events = es ++ x.events;
  line_is = x.line_is ∙ ap (λ (y : Line). run y x.events) line ∙ sym (run-append l es x.events);
  core_is = does_both T R l es x.events c d e core (subst (λ (y : Line). DoesAll T R y x.events d e) line x.core_is);
  some = (let k : count_of replies_at (es ++ x.events) ≡ count_of replies_at es + count_of replies_at x.events = count-append replies_at es x.events in let s = x.some in omega (arith, k, s));
}

-- one reply
pub given : {C : Type 0} (T R : C → List ℕ → C → Type 0) (l l' : Line) (c c' : C) (reply : List ℕ) → reads l ≡ true → l' ≡ with_reply l reply → R c reply c' → GivesSome T R l c l' c'
given T R l l' c c' reply open' line does = record {
  events = Answered reply ∷ [];
  line_is = line ∙ sym (picked (reads l) (with_reply l reply) l open');
  core_is = (c', (open', does), refl);
  some = omega arith;
}

-- ---- One request after another

pub unheld : {C : Type 0} (held : Bool) (T R : C → List ℕ → C → Type 0) (a b : Moment C) → IsFalse held → GoesOn (Shares held) T R a b → Advances T R a b
unheld held T R a b free (inl x) = inl x
unheld held T R a b free (inr (inl e)) = inr (inl e)
unheld held T R a b free (inr (inr (inl e))) = inr (inr (inl e))
unheld held T R a b free (inr (inr (inr x))) = inr (inr (inr (x.1 free)))

less_still : (a b c : Option ℕ) → IsLess a b → KeepsWork b c → IsLess a c
less_still a b c h (inl e) = subst (λ (x : Option ℕ). IsLess a x) (sym e) h
less_still a b c h (inr k) = less_twice a b c h k

is_waiting : (r : Readiness) (l : Line) → can_answer r l ≡ true → r.waiting ≡ true
is_waiting r l can = left_true r.waiting (reads l) can

opened : (r : Readiness) (l : Line) → can_answer r l ≡ true → is_open l.stage ≡ true
opened r l can = left_true (is_open l.stage) (nat_lt (length l.owed) cap) (right_true r.waiting (reads l) can)

-- where less is left, and the next is a reply, an end or a share
less_then : {C : Type 0} (held : Bool) (n n' : ℕ) (T R : C → List ℕ → C → Type 0) (I : C → Type 0) (O : C → Bool) (a b c : Moment C)
    → Turned 0 n T R I O can_answer a b → IsLess a.left b.left → GoesOn (Shares held) T R b c → Advances T R a c
less_then held n n' T R I O a b c x less (inl s) = inl (before_some T R a.line b.line c.line a.core b.core c.core x.events x.line_is x.core_is s)
less_then held n n' T R I O a b c x less (inr (inl e)) = inr (inl e)
less_then held n n' T R I O a b c x less (inr (inr (inl e))) = inr (inr (inl e))
less_then held n n' T R I O a b c x less (inr (inr (inr s))) = inr (inr (inr (less_still a.left b.left c.left less s.0)))

pub next_one : {C : Type 0} (held : Bool) (n n' : ℕ) (T R : C → List ℕ → C → Type 0) (I : C → Type 0) (O : C → Bool) (a b c : Moment C)
    → Turned 0 n T R I O can_answer a b → Turned 0 n' T R I O can_answer b c → can_answer b.ready b.line ≡ true → GoesOn (Shares held) T R b c → Advances T R a b → Advances T R a c
next_one held n n' T R I O a b c x y can goes (inl s) = inl (behind_some T R a.line b.line c.line a.core b.core c.core y.events s y.line_is y.core_is)
next_one held n n' T R I O a b c x y can goes (inr (inl e)) = clash b.ready.waiting (is_waiting b.ready b.line can) e
next_one held n n' T R I O a b c x y can goes (inr (inr (inl e))) = clash (is_open b.line.stage) (opened b.ready b.line can) e
next_one held n n' T R I O a b c x y can goes (inr (inr (inr less))) = less_then held n n' T R I O a b c x less goes

-- ---- Between two writes

-- a write leaves the line closed, or as open as it was and no more owed
abbrev Leaves : Line → Readiness → Line → Readiness → Type 0
Leaves l r l' r' = (r'.waiting ≡ r.waiting) × ((is_open l'.stage ≡ false) ⊎ ((is_open l'.stage ≡ is_open l.stage) × (length l'.owed ≤ length l.owed)))

left_so : (l l' : Line) (w w' : Option Traffic) (r r' : Readiness) → WritesOnce l w r l' w' r' → Leaves l r l' r'
left_so l l' w w' r r' (inl x) = rw (x.2, x.4) (refl, inr (refl, (let e = length-drop x.0 l.owed in omega (arith, e))))
left_so l l' w w' r r' (inr (inl x)) = rw (x.0, x.2) (refl, inr (refl, omega arith))
left_so l l' w w' r r' (inr (inr x)) = rw (x.0, x.2) (refl, inl refl)

leaves : (l l' : Line) (w w' : Option Traffic) (r r' : Readiness) → Flushes l w r l' w' r' → Leaves l r l' r'
leaves l l' w w' r r' h = elim (cases_Bool (can_write r l)) [
  | inl e ↦ left_so l l' w w' r r' (MatchBool-at_true (WritesOnce l w r l' w' r') ((l' ≡ l) × (w' ≡ w) × (r' ≡ r)) e h)
  | inr e ↦
      let same : (l' ≡ l) × (w' ≡ w) × (r' ≡ r) = MatchBool-at_false (WritesOnce l w r l' w' r') ((l' ≡ l) × (w' ≡ w) × (r' ≡ r)) e h in
      rw (same.0, same.2) (refl, inr (refl, omega arith))
]

stays_closed : (l l' : Line) (r r' : Readiness) → Leaves l r l' r' → is_open l.stage ≡ false → is_open l'.stage ≡ false
stays_closed l l' r r' (w, inl e) h = e
stays_closed l l' r r' (w, inr e) h = e.0 ∙ h

answers_still : (l l' : Line) (r r' : Readiness) → can_answer r l ≡ true → r'.waiting ≡ r.waiting → is_open l'.stage ≡ is_open l.stage → length l'.owed ≤ length l.owed → can_answer r' l' ≡ true
answers_still l l' r r' can waits same less =
    let reading : reads l ≡ true = right_true r.waiting (reads l) can in
    let short : length l.owed < cap = ltb-true (length l.owed) cap (right_true (is_open l.stage) (nat_lt (length l.owed) cap) reading) in
    both_true r'.waiting (reads l') (waits ∙ is_waiting r l can)
    (both_true (is_open l'.stage) (nat_lt (length l'.owed) cap) (same ∙ opened r l can) (lt-ltb (length l'.owed) cap (omega (arith, short, less))))

-- behind a write it has come as near
carried : {C : Type 0} (T R : C → List ℕ → C → Type 0) (I : C → Type 0) (O : C → Bool) (a : Moment C) (l l' : Line) (w w' : Option Traffic) (r r' : Readiness) (c : C) (u : Option ℕ)
    → Flushes l w r l' w' r' → Advances T R a (here l w c u r) → Advances T R a (here l' w' c u r')
carried T R I O a l l' w w' r r' c u h (inl s) =
    let x : Turned 0 0 T R I O can_write (here l w c u r) (here l' w' c u r') = flushed T R I O l l' w w' r r' c u h in
    inl (behind_some T R a.line l l' a.core c c x.events s x.line_is x.core_is)
carried T R I O a l l' w w' r r' c u h (inr (inl e)) = inr (inl ((leaves l l' w w' r r' h).0 ∙ e))
carried T R I O a l l' w w' r r' c u h (inr (inr (inl e))) = inr (inr (inl (stays_closed l l' r r' (leaves l l' w w' r r' h) e)))
carried T R I O a l l' w w' r r' c u h (inr (inr (inr e))) = inr (inr (inr e))

-- a write before it takes nothing away
preceded : {C : Type 0} (T R : C → List ℕ → C → Type 0) (I : C → Type 0) (O : C → Bool) (b : Moment C) (l l' : Line) (w w' : Option Traffic) (r r' : Readiness) (c : C) (u : Option ℕ)
    → Flushes l w r l' w' r' → Advances T R (here l' w' c u r') b → Advances T R (here l w c u r) b
preceded T R I O b l l' w w' r r' c u h (inl s) =
    let x : Turned 0 0 T R I O can_write (here l w c u r) (here l' w' c u r') = flushed T R I O l l' w w' r r' c u h in
    inl (before_some T R l l' b.line c c b.core x.events x.line_is x.core_is s)
preceded T R I O b l l' w w' r r' c u h (inr e) = inr e

-- a write leaves the request to be answered, or the line closed
between : {C : Type 0} (T R : C → List ℕ → C → Type 0) (I : C → Type 0) (O : C → Bool) (b : Moment C) (l l' : Line) (w w' : Option Traffic) (r r' : Readiness) (c : C) (u : Option ℕ)
    → can_answer r l ≡ true → Flushes l w r l' w' r' → Leaves l r l' r' → (can_answer r' l' ≡ true → Advances T R (here l' w' c u r') b) → (is_open l'.stage ≡ false → b.line ≡ l') → Advances T R (here l w c u r) b
between T R I O b l l' w w' r r' c u can h (k, inr e) goes same = preceded T R I O b l l' w w' r r' c u h (goes (answers_still l l' r r' can k e.0 e.1))
between T R I O b l l' w w' r r' c u can h (k, inl e) goes same = inr (inr (inl (ap (λ (x : Line). is_open x.stage) (same e) ∙ e)))

-- a write, an answer, and a write again
pub advanced : {C : Type 0} (T R : C → List ℕ → C → Type 0) (I : C → Type 0) (O : C → Bool) (k l m n : Line) (w w' v v' : Option Traffic) (q r s t : Readiness) (c c' : C) (u u' : Option ℕ)
    → can_answer q k ≡ true → Flushes k w q l w' r → (can_answer r l ≡ true → Advances T R (here l w' c u r) (here m v c' u' s)) → (is_open l.stage ≡ false → m ≡ l) → Flushes m v s n v' t
    → Advances T R (here k w c u q) (here n v' c' u' t)
advanced T R I O k l m n w w' v v' q r s t c c' u u' can before goes same behind =
    carried T R I O (here k w c u q) m n v v' s t c' u' behind (between T R I O (here m v c' u' s) k l w w' q r c u can before (leaves k l w w' q r before) goes same)

-- ---- What is neither read nor answered

reads_not : (b w l : Bool) → w ≡ true → ((b && not w) && l) ≡ false
reads_not true true l e = refl
reads_not false true l e = refl
reads_not b false l e = absurd cc

pub no_read : (r : Readiness) (l : Line) → can_answer r l ≡ true → can_read r l ≡ false
no_read r l can = reads_not r.readable r.waiting (reads l) (is_waiting r l can)

none_of : (w o s : Bool) → o ≡ false → (w && (o && s)) ≡ false
none_of true true s e = absurd cc
none_of false true s e = refl
none_of true false s e = refl
none_of false false s e = refl

pub no_answer : (r : Readiness) (l : Line) → is_open l.stage ≡ false → can_answer r l ≡ false
no_answer r l e = none_of r.waiting (is_open l.stage) (nat_lt (length l.owed) cap) e

pub no_read_closed : (r : Readiness) (l : Line) → is_open l.stage ≡ false → can_read r l ≡ false
no_read_closed r l e = none_of (r.readable && not r.waiting) (is_open l.stage) (nat_lt (length l.owed) cap) e
