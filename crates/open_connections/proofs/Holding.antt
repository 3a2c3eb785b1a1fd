-- A request that is answered alone in its turn is not held.
use Rattle.std.proofs.Common.{◌≡◌, ◌<◌, ◌^◌, ℕ, Bool, true, false, Option, Some, None, sym, refl, subst}
use Rattle.std.specs.Prelude.{◌&&◌, ◌||◌, not, nat_lt, is_some, IfSome}
use Rattle.std.proofs.lemmas.Bool.{lt-ltb}
use Rattle.due_list.specs.Long.{begun, is_crowded}
use Rattle.due_list.specs.declared.long_turns.LongTurns.{LongTurns}
use Rattle.connection_turns.specs.Cores.{is_held}
use Rattle.open_connections.specs.Opened.{is_long, owes_much}
use Rattle.open_connections.specs.Shares.{claim_at}
use Rattle.open_connections.specs.declared.open.Open.{Open}

-- under its key, and as brief as the bounds of its turn say
pub not_held_by : {C : Type 0} (waits longs : ℕ → C → Bool) (key conn : ℕ) (b b' : Bool) (core : C) → conn ≡ key → b ≡ b' → is_held waits longs b' key core ≡ false → is_held waits longs b conn core ≡ false
not_held_by waits longs key conn b b' core e f h = subst (λ (n : ℕ). is_held waits longs b n core ≡ false) (sym e) (subst (λ (x : Bool). is_held waits longs x key core ≡ false) (sym f) h)

-- one that may take long is not brief: its turn was begun as such
brief_or_long : (a c k o l : Bool) → a ≡ true → ((c && not (a && ((c || k) && (o || l)))) && l) ≡ false
brief_or_long a false k o l e = refl
brief_or_long a true k o false e = right_false (not (a && (o || false)))
  where
    right_false : (x : Bool) → (x && false) ≡ false
    right_false true = refl
    right_false false = refl
brief_or_long true true k true true e = refl
brief_or_long true true k false true e = refl
brief_or_long false true k o true e = absurd cc

pub not_held : {S C T : Type 0} (waits longs : ℕ → C → Bool) (key party : ℕ) (o : Open S C T) (core : C) (turns : LongTurns) → key < 2 ^ 32 → waits key o.core ≡ false → core ≡ o.core → turns ≡ begun party (is_long longs key o) o.due.longs
    → is_held waits longs (is_crowded turns && not turns.is_under_way) key core ≡ false
not_held waits longs key party o core turns k w c e = rw (c, e, w) (brief_or_long (nat_lt key (2 ^ 32)) (is_crowded o.due.longs) (is_some (claim_at o.connections key)) (owes_much key o) (longs key o.core) (lt-ltb key (2 ^ 32) k))

-- one that does not stand by does not wait
pub waits_not : (k a w : Bool) → k ≡ true → a ≡ true → false ≡ (k && (a && w)) → w ≡ false
waits_not true true w e f h = sym h
waits_not true false w e f h = absurd cc
waits_not false a w e f h = absurd cc

-- what follows from what is so of the one that is there
pub one_so : {A : Type 0} (P : A → Type 0) (Q : Type 0) (slot : Option A) → ((x : A) → P x → Q) → IfSome slot P → IfSome slot (λ _. Q)
one_so P Q None f h = tt
one_so P Q (Some x) f h = f x h

-- where a plan answers, one stands by just if it waits
pub stood_by : (k a w : Bool) → k ≡ true → a ≡ true → w ≡ (k && (a && w))
stood_by true true w e f = refl
stood_by true false w e f = absurd cc
stood_by false a w e f = absurd cc
