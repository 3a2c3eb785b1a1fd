-- Those of a list, served one after the other.
use Rattle.std.proofs.Common.{arith, ◌≡◌, ◌<◌, ◌≤◌, ◌+◌, ◌^◌, ℕ, suc, zero, List, [], ◌∷◌, length, drop, get_or, add-one, Bool, true, false, Option, Some, None, sym, ap, ◌∙◌, refl, subst, inl, inr}
use Rattle.std.specs.Prelude.{IfSome, IsTrue, ◌&&◌, ◌==◌, nat_lt, is_some}
use Rattle.std.specs.Bool.{MatchBool}
use Rattle.std.proofs.lemmas.Bool.{and_parts, ltb-true}
use Rattle.std.proofs.Math.Seq.{drop-cons}
use Rattle.std.specs.Option.{option_map_or}
use Rattle.slab.specs.Slab.{get}
use Rattle.outbox.specs.Traffic.{Traffic}
use Rattle.connection_turns.specs.declared.connection.Connection.{Connection}
use Rattle.due_list.specs.declared.due.Due.{Due}
use Rattle.open_connections.specs.declared.open.Open.{Open}
use Rattle.connection_turns.specs.declared.connection.Outcome.{Outcome}
use Rattle.connection_turns.specs.declared.connection.Outcome.TheVariants as outcome
use Rattle.connection_turns.specs.Cores.{CoreSteps}
use Rattle.open_connections.specs.Looping.{LetGo, Stays}
use Rattle.open_connections.specs.Opened.{has_time, is_open_at, is_there, lanes_of}
use Rattle.open_connections.specs.Turns.{StatesStay}
use Rattle.open_connections.specs.Woken.{TurnsStay}
use Rattle.open_connections.specs.Laws.{JoinsStates, JoinsSteps}
use Rattle.event_loop.proofs.Looping.{stays}
use Rattle.event_loop.specs.Turns.{Follows, PutsOff, ServesEach, ServesOne, TakesTurnAt}

-- what is so at a small number
pub if_small : {A : Type 0} (P : A → Type 0) (key : ℕ) (slot : Option A) → IfSome slot (λ x. key < 2 ^ 32 → P x) → key < 2 ^ 32 → IfSome slot P
if_small P key None h k = tt
if_small P key (Some x) h k = h k

-- what is served of the rest of a list is, behind those before, the whole
abbrev pub Leads : {S C T : Type 0} → CoreSteps C → (S → Option Traffic) → (waits longs : ℕ → C → Bool) → (all rest : List Due) → Open S C T → Open S C T → Type 0
Leads {S} {C} {T} s told waits longs all rest start now = (end : Open S C T) → ServesEach s told waits longs rest now end → ServesEach s told waits longs all start end

pub leads_on : {S C T : Type 0} (s : CoreSteps C) (told : S → Option Traffic) (waits longs : ℕ → C → Bool) (all : List Due) (i : ℕ) (d : Due) (start now next : Open S C T) → i < length all
    → Leads s told waits longs all (drop i all) start now → ServesOne s told waits longs (get_or all i d) now next → TurnsStay now next → Leads s told waits longs all (drop (i + 1) all) start next
leads_on {S} {C} {T} s told waits longs all i d start now next l h k t = λ end e.
    let more : drop i all ≡ get_or all i d ∷ drop (i + 1) all = drop-cons all i d l ∙ ap (λ (n : ℕ). get_or all i d ∷ drop n all) (sym (add-one i)) in
    h end (subst (λ (ds : List Due). ServesEach s told waits longs ds now end) (sym more) (next, k, t, e))

pub none_dropped : (dues : List Due) (i : ℕ) → length dues ≤ i → drop i dues ≡ []
none_dropped [] zero l = refl
none_dropped [] (suc i) l = refl
none_dropped (d ∷ dues) zero l = let f : ⊥ = omega arith in absurd f
none_dropped (d ∷ dues) (suc i) l = none_dropped dues i (omega arith)

pub leads_through : {S C T : Type 0} (s : CoreSteps C) (told : S → Option Traffic) (waits longs : ℕ → C → Bool) (all : List Due) (i : ℕ) (start now end : Open S C T) → length all ≤ i
    → Leads s told waits longs all (drop i all) start now → ServesEach s told waits longs [] now end → ServesEach s told waits longs all start end
leads_through s told waits longs all i start now end l h e = h end (subst (λ (ds : List Due). ServesEach s told waits longs ds now end) (sym (none_dropped all i l)) e)

-- what follows from where nothing changed
pub follows_then : {S C T : Type 0} {s : CoreSteps C} → JoinsSteps s → JoinsStates S C T → (told : S → Option Traffic) (key : ℕ) (result : Outcome) (a b c : Open S C T) → Stays (lanes_of s told a) (lanes_of s told b) → StatesStay a b → b.core ≡ a.core → Follows s told key result b c → Follows s told key result a c
follows_then j i told key outcome.Open a b c h k e f = elim f [ inl d ↦ inl (j.before (LetGo key) _ _ _ h d) | inr t ↦ inr (j.twice _ _ _ h t.0, i.twice a b c k t.1, λ d. t.2 d ∙ e) ]
follows_then j i told key (outcome.Over how) a b c h k e f = j.before (LetGo key) _ _ _ h f
follows_then j i told key outcome.Closed a b c h k e f = j.before (LetGo key) _ _ _ h f

pub unchanged : {S C T : Type 0} (s : CoreSteps C) (told : S → Option Traffic) (a b : Open S C T) → b ≡ a → Stays (lanes_of s told a) (lanes_of s told b)
unchanged {S} {C} {T} s told a b e = subst (λ (x : Open S C T). Stays (lanes_of s told a) (lanes_of s told x)) (sym e) (stays (lanes_of s told a))

-- one that is there is open, under a small key
pub there_open : {S : Type 0} (key number : ℕ) (slot : Option (Connection S)) → option_map_or (λ c. c.number == number && nat_lt key (2 ^ 32)) slot false ≡ true → is_some slot ≡ true
there_open key number None e = absurd cc
there_open key number (Some c) e = refl

pub there_small : {S : Type 0} (key number : ℕ) (slot : Option (Connection S)) → option_map_or (λ c. c.number == number && nat_lt key (2 ^ 32)) slot false ≡ true → key < 2 ^ 32
there_small key number None e = absurd cc
there_small key number (Some c) e = ltb-true key (2 ^ 32) (and_parts (c.number == number) (nat_lt key (2 ^ 32)) e).1

at_true : (P Q : Type 0) (b : Bool) → b ≡ true → P → MatchBool b P Q
at_true P Q true e p = p
at_true P Q false e p = absurd cc

-- one that has time and is there has its turn
pub serves_one : {S C T : Type 0} (s : CoreSteps C) (told : S → Option Traffic) (waits longs : ℕ → C → Bool) (due : Due) (old new : Open S C T) → has_time longs due old ≡ true → is_there due old ≡ true
    → (IsTrue (is_open_at due.key old) → due.key < 2 ^ 32 → TakesTurnAt s told waits due.key old new) → ServesOne s told waits longs due old new
serves_one s told waits longs due old new t h k =
    at_true (MatchBool (is_there due old) (TakesTurnAt s told waits due.key old new) (new ≡ old)) (PutsOff s told due old new) (has_time longs due old) t
    (at_true (TakesTurnAt s told waits due.key old new) (new ≡ old) (is_there due old) h
    (k (there_open due.key due.number (get old.connections due.key) h) (there_small due.key due.number (get old.connections due.key) h)))
