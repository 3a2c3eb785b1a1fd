-- What the events of a turn add to what is owed.
use Rattle.std.proofs.Common.{◌≡◌, ◌≤◌, ◌+◌, ℕ, List, [], ◌∷◌, ◌++◌, Bool, Option, true, length, drop, ap, ◌∙◌, subst, inl, inr, arith}
use Rattle.std.specs.Prelude.{if◌then◌else◌, nat_lt}
use Rattle.std.proofs.lemmas.Bool.{MatchBool-at_false, MatchBool-at_true, and_parts, cases_Bool, ltb-true}
use Rattle.std.proofs.lemmas.List.{length-append, length-drop}
use Rattle.outbox.specs.Lines.{Line, Event, Readable, Declined, Answered, Writable, Ends, Fails, Worked, after, cap, is_open, reads, run}
use Rattle.outbox.specs.Traffic.{Traffic}
use Rattle.outbox.specs.Turns.{DoesAll, Flushes, WritesOnce, answers_at, can_write, count_of, pieces_at}
use Rattle.outbox.specs.declared.readiness.Readiness.{Readiness}
use Rattle.connection_turns.specs.Turning.{Adds}
use Rattle.connection_turns.specs.declared.connection.TurnPlan.TheVariants.{Answer, All}

dropped : (n : ℕ) (xs : List ℕ) → length (drop n xs) ≤ length xs
dropped n xs = omega (arith, length-drop n xs)

-- a reply is given below the cap alone
replied : (line : Line) (reply : List ℕ) → reads line ≡ true → length (after line (Answered reply)).owed ≡ length line.owed + length reply
replied line reply e = ap (λ (b : Bool). length (if b then record line { owed = line.owed ++ reply } else line).owed) e ∙ simp length-append

below : (line : Line) → reads line ≡ true → length line.owed ≤ cap
below line e = omega (arith, ltb-true (length line.owed) cap (and_parts (is_open line.stage) (nat_lt (length line.owed) cap) e).1)

-- ---- Without an answer

pub none_added : (line : Line) (es : List Event) → count_of answers_at es ≤ 0 → length (run line es).owed ≤ length line.owed
none_added line [] h = omega arith
none_added line (Readable piece ∷ es) h = none_added line es (omega (arith, h))
none_added line (Declined piece ∷ es) h = none_added (after line (Declined piece)) es (omega (arith, h))
none_added line (Answered reply ∷ es) h = absurd (omega (arith, h))
none_added line (Writable room ∷ es) h = let i = none_added (after line (Writable room)) es (omega (arith, h)) in omega (arith, i, dropped room line.owed)
none_added line (Ends ∷ es) h = none_added (after line Ends) es (omega (arith, h))
none_added line (Fails ∷ es) h = let i = none_added (after line Fails) es (omega (arith, h)) in omega (arith, i)
none_added line (Worked ∷ es) h = absurd (omega (arith, h))

-- ---- With one, and no piece

module _ {C : Type 0} (takes answers : C → List ℕ → C → Type 0) where
  behind : (more less owed' : ℕ) (old mid : C) → less ≤ more → mid ≡ old → Adds Answer answers mid less owed' → Adds Answer answers old more owed'
  behind more less owed' old mid l e (inl h) = inl (omega (arith, l, h))
  behind more less owed' old mid l e (inr (reply, new, a, h)) = inr (reply, new, subst (λ (x : C). answers x reply new) e a, omega (arith, l, h))

  pub one_added : (line : Line) (es : List Event) (old new : C) → DoesAll takes answers line es old new → count_of pieces_at es ≤ 0 → count_of answers_at es ≤ 1
      → Adds Answer answers old (length line.owed) (length (run line es).owed)
  one_added line [] old new d p a = inl (omega arith)
  one_added line (Readable piece ∷ es) old new d p a = absurd (omega (arith, p))
  one_added line (Declined piece ∷ es) old new d p a = absurd (omega (arith, p))
  one_added line (Answered reply ∷ es) old new d p a =
      let i = none_added (after line (Answered reply)) es (omega (arith, a)) in inr (reply, d.0, d.1.1, omega (arith, i, replied line reply d.1.0))
  one_added line (Writable room ∷ es) old new d p a =
      behind (length line.owed) _ _ old d.0 (dropped room line.owed) d.1 (one_added (after line (Writable room)) es d.0 new d.2 (omega (arith, p)) (omega (arith, a)))
  one_added line (Ends ∷ es) old new d p a = behind (length line.owed) (length line.owed) _ old d.0 (omega arith) d.1 (one_added (after line Ends) es d.0 new d.2 (omega (arith, p)) (omega (arith, a)))
  one_added line (Fails ∷ es) old new d p a = behind (length line.owed) 0 _ old d.0 (omega arith) d.1 (one_added (after line Fails) es d.0 new d.2 (omega (arith, p)) (omega (arith, a)))
  one_added line (Worked ∷ es) old new d p a = let i = none_added line es (omega (arith, a)) in inl i

  -- ---- With several

  more : (owed before owed' : ℕ) (old mid : C) → before ≤ owed → Adds All answers mid before owed' → Adds All answers old owed owed'
  more owed before owed' old mid l (inl h) = inl (omega (arith, l, h))
  more owed before owed' old mid l (inr k) = inr k

  pub some_added : (line : Line) (es : List Event) (old new : C) → DoesAll takes answers line es old new → Adds All answers old (length line.owed) (length (run line es).owed)
  some_added line [] old new d = inl (omega arith)
  some_added line (Readable piece ∷ es) old new d = some_added line es d.0 new d.2
  some_added line (Declined piece ∷ es) old new d = some_added (after line (Declined piece)) es d.0 new d.2
  some_added line (Answered reply ∷ es) old new d = elim (some_added (after line (Answered reply)) es d.0 new d.2) [
    | inl h ↦ inr (old, reply, d.0, d.1.1, omega (arith, h, replied line reply d.1.0, below line d.1.0))
    | inr k ↦ inr k
  ]
  some_added line (Writable room ∷ es) old new d = more (length line.owed) _ _ old d.0 (dropped room line.owed) (some_added (after line (Writable room)) es d.0 new d.2)
  some_added line (Ends ∷ es) old new d = some_added (after line Ends) es d.0 new d.2
  some_added line (Fails ∷ es) old new d = more (length line.owed) 0 _ old d.0 (omega arith) (some_added (after line Fails) es d.0 new d.2)
  some_added line (Worked ∷ es) old new d = some_added line es d.0 new d.2

-- ---- A write

wrote_less : (line line' : Line) (wire wire' : Option Traffic) (ready ready' : Readiness) → WritesOnce line wire ready line' wire' ready' → length line'.owed ≤ length line.owed
wrote_less line line' wire wire' ready ready' (inl x) = let e : length line'.owed ≡ length (drop x.0 line.owed) = ap (λ (l : Line). length l.owed) x.2 in omega (arith, e, dropped x.0 line.owed)
wrote_less line line' wire wire' ready ready' (inr (inl x)) = let e : length line'.owed ≡ length line.owed = ap (λ (l : Line). length l.owed) x.0 in omega (arith, e)
wrote_less line line' wire wire' ready ready' (inr (inr x)) = let e : length line'.owed ≡ 0 = ap (λ (l : Line). length l.owed) x.0 in omega (arith, e)

pub less_owed : (line line' : Line) (wire wire' : Option Traffic) (ready ready' : Readiness) → Flushes line wire ready line' wire' ready' → length line'.owed ≤ length line.owed
less_owed line line' wire wire' ready ready' h = elim (cases_Bool (can_write ready line)) [
  | inl can ↦ wrote_less line line' wire wire' ready ready' (MatchBool-at_true _ _ can h)
  | inr cannot ↦ let same : line' ≡ line = (MatchBool-at_false _ _ cannot h).0 in let e : length line'.owed ≡ length line.owed = ap (λ (l : Line). length l.owed) same in omega (arith, e)
]
