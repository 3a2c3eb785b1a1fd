-- Steps one after the other. What joins them is a law of open_connections.
use Rattle.std.proofs.Common.{◌≡◌, ◌⊎◌, ℕ, Bool, true, false, List, [], ◌∷◌, ◌++◌, Option, Some, None, ap, ◌∙◌, refl, inl, inr}
use Rattle.std.specs.Prelude.{MatchBool, ◌≢◌, ◌==◌}
use Rattle.std.proofs.lemmas.Bool.{cases_Bool, eqb-true, eqb-false}
use Rattle.outbox.specs.Lines.{Line}
use Rattle.connection_turns.specs.Cores.{CoreSteps}
use Rattle.open_connections.specs.Joined.{Joined}
use Rattle.open_connections.specs.Laws.{JoinsSteps}
use Rattle.open_connections.specs.Looping.{Lanes, Step, TakenIn, HasTurn, LetGo, Drained, Does, DoesEach, DoesSome, DoesAtMost, KeepsTask, Task, TurnsAtMost, Stays, TakesNone, DoesOn, ServesNoNew}
use Rattle.open_connections.specs.Shares.{limits_in}

-- one that is due is so still, and what is left stays
pub keeps_same : (a b : Task) → b ≡ a → KeepsTask a b
keeps_same a b e = at a.is_due
  where
    at : (due : Bool) → MatchBool due (b ≡ a) ((b.left ≡ a.left) ⊎ (b.left ≡ None))
    at true = e
    at false = inl (ap (λ (task : Task). task.left) e)

pub stays : {C : Type 0} (a : Lanes C) → Stays a a
stays a = record { core_stays = refl; lines_stay = λ q. refl; wires_stay = λ q. refl; tasks_stay = λ q. keeps_same (a.tasks q) (a.tasks q) refl; limits_stay = refl; joined = λ h. h; bytes_stay = refl }

pub then_at_most : {C : Type 0} {s : CoreSteps C} → JoinsSteps s → (step : Step) (a b c : Lanes s.Seen) → Stays a b → DoesAtMost s step b c → DoesAtMost s step a c
then_at_most j step a b c h d = elim d [ inl x ↦ inl (j.before step a b c h x) | inr k ↦ inr (j.twice a b c h k) ]

pub turn_then : {C : Type 0} {s : CoreSteps C} → JoinsSteps s → (conn : ℕ) (a b c : Lanes s.Seen) → TurnsAtMost s conn a b → Stays b c → TurnsAtMost s conn a c
turn_then j conn a b c d h = elim d [
  | inl x ↦ inl (j.behind (HasTurn conn) a b c x h)
  | inr x ↦ inr (j.behind (Drained conn) a b c x h)
]

before_each : {C : Type 0} {s : CoreSteps C} → JoinsSteps s → (steps : List Step) (a b c : Lanes s.Seen) → Stays a b → DoesEach s steps b c → DoesEach s steps a c
before_each j [] a b c h d = j.twice a b c h d
before_each j (step ∷ steps) a b c h d = (d.0, j.before step a b d.0 h d.1, d.2)

each_then : {C : Type 0} {s : CoreSteps C} → JoinsSteps s → (steps more : List Step) (a b c : Lanes s.Seen) → DoesEach s steps a b → DoesEach s more b c → DoesEach s (steps ++ more) a c
each_then j [] more a b c h d = before_each j more a b c h d
each_then j (step ∷ steps) more a b c h d = (h.0, h.1, each_then j steps more h.0 b c h.2 d)

pub some_then : {C : Type 0} {s : CoreSteps C} → JoinsSteps s → (a b c : Lanes s.Seen) → DoesSome s a b → DoesSome s b c → DoesSome s a c
some_then j a b c h d = (h.0 ++ d.0, each_then j h.0 d.0 a b c h.1 d.1)

pub no_step : {C : Type 0} (s : CoreSteps C) (a b : Lanes s.Seen) → Stays a b → DoesSome s a b
no_step s a b h = ([], h)

pub at_most_some : {C : Type 0} (s : CoreSteps C) (step : Step) (a b : Lanes s.Seen) → DoesAtMost s step a b → DoesSome s a b
at_most_some s step a b d = elim d [ inl x ↦ (step ∷ [], (b, x, stays b)) | inr k ↦ no_step s a b k ]

pub taken_some : {C : Type 0} (s : CoreSteps C) (conn : ℕ) (taken : Bool) (a b : Lanes s.Seen) → MatchBool taken (Does s (TakenIn conn) a b) (Stays a b) → DoesSome s a b
taken_some s conn true a b d = at_most_some s (TakenIn conn) a b (inl d)
taken_some s conn false a b d = no_step s a b d

limits_at : {C : Type 0} (s : CoreSteps C) (step : Step) (a b : Lanes s.Seen) → Does s step a b → limits_in b.budgets ≡ limits_in a.budgets
limits_at s (TakenIn conn) a b d = d.others.limits_stay
limits_at s (HasTurn conn) a b d = d.others.limits_stay
limits_at s (LetGo conn) a b d = d.others.limits_stay
limits_at s (Drained conn) a b d = d.others.limits_stay

limits_after : {C : Type 0} (s : CoreSteps C) (steps : List Step) (a b : Lanes s.Seen) → DoesEach s steps a b → limits_in b.budgets ≡ limits_in a.budgets
limits_after s [] a b d = d.limits_stay
limits_after s (step ∷ steps) a b d = limits_after s steps d.0 b d.2 ∙ limits_at s step a d.0 d.1

pub limits_kept : {C : Type 0} (s : CoreSteps C) (a b : Lanes s.Seen) → DoesSome s a b → limits_in b.budgets ≡ limits_in a.budgets
limits_kept s a b d = limits_after s d.0 a b d.1

joined_at : {C : Type 0} (s : CoreSteps C) (step : Step) (a b : Lanes s.Seen) → Does s step a b → Joined a.claims a.budgets → Joined b.claims b.budgets
joined_at s (TakenIn conn) a b d = d.others.joined
joined_at s (HasTurn conn) a b d = d.others.joined
joined_at s (LetGo conn) a b d = d.others.joined
joined_at s (Drained conn) a b d = d.others.joined

joined_after : {C : Type 0} (s : CoreSteps C) (steps : List Step) (a b : Lanes s.Seen) → DoesEach s steps a b → Joined a.claims a.budgets → Joined b.claims b.budgets
joined_after s [] a b d j = d.joined j
joined_after s (step ∷ steps) a b d j = joined_after s steps d.0 b d.2 (joined_at s step a d.0 d.1 j)

pub joined_kept : {C : Type 0} (s : CoreSteps C) (a b : Lanes s.Seen) → DoesSome s a b → Joined a.claims a.budgets → Joined b.claims b.budgets
joined_kept s a b d = joined_after s d.0 a b d.1

-- steps of which none takes a connection in
none_in : (steps more : List Step) → TakesNone steps → TakesNone more → TakesNone (steps ++ more)
none_in [] more h k = k
none_in (TakenIn conn ∷ steps) more h k = absurd h
none_in (HasTurn conn ∷ steps) more h k = none_in steps more h k
none_in (LetGo conn ∷ steps) more h k = none_in steps more h k
none_in (Drained conn ∷ steps) more h k = none_in steps more h k

pub on_then : {C : Type 0} {s : CoreSteps C} → JoinsSteps s → (a b c : Lanes s.Seen) → DoesOn s a b → DoesOn s b c → DoesOn s a c
on_then j a b c h d = (h.0 ++ d.0, none_in h.0 d.0 h.1 d.1, each_then j h.0 d.0 a b c h.2 d.2)

pub no_step_on : {C : Type 0} (s : CoreSteps C) (a b : Lanes s.Seen) → Stays a b → DoesOn s a b
no_step_on s a b h = ([], tt, h)

pub gone_on : {C : Type 0} (s : CoreSteps C) (conn : ℕ) (a b : Lanes s.Seen) → DoesAtMost s (LetGo conn) a b → DoesOn s a b
gone_on s conn a b d = elim d [ inl x ↦ (LetGo conn ∷ [], tt, (b, x, stays b)) | inr k ↦ no_step_on s a b k ]

pub turn_on : {C : Type 0} (s : CoreSteps C) (conn : ℕ) (a b : Lanes s.Seen) → TurnsAtMost s conn a b → DoesOn s a b
turn_on s conn a b d = elim d [
  | inl x ↦ (HasTurn conn ∷ [], tt, (b, x, stays b))
  | inr x ↦ (Drained conn ∷ [], tt, (b, x, stays b))
]

pub on_some : {C : Type 0} (s : CoreSteps C) (a b : Lanes s.Seen) → DoesOn s a b → DoesSome s a b
on_some s a b d = (d.0, d.2)

-- a connection that is not served before such a step is not served behind it
none_at : {C : Type 0} (conn : ℕ) (a b : Lanes C) (q : ℕ) → (q ≡ conn → b.lines q ≡ None) → ((q : ℕ) → q ≢ conn → b.lines q ≡ a.lines q) → a.lines q ≡ None → b.lines q ≡ None
none_at conn a b q here there h = elim (cases_Bool (q == conn)) [
  | inl e ↦ here (eqb-true q conn e)
  | inr e ↦ there q (eqb-false q conn e) ∙ h
]

served_not : (x : Option Line) (line : Line) → x ≡ None → x ≡ Some line → ⊥
served_not x line h k = absurd cc

not_served : {C : Type 0} (s : CoreSteps C) (steps : List Step) (a b : Lanes s.Seen) → TakesNone steps → DoesEach s steps a b → ServesNoNew a b
not_served s [] a b k d q h = d.lines_stay q ∙ h
not_served s (TakenIn conn ∷ steps) a b k d q h = absurd k
not_served s (HasTurn conn ∷ steps) a b k d q h =
    not_served s steps d.0 b k d.2 q (none_at conn a d.0 q (λ e. absurd (served_not (a.lines q) d.1.line h (ap a.lines e ∙ d.1.was))) d.1.others.lines_stay h)
not_served s (LetGo conn ∷ steps) a b k d q h = not_served s steps d.0 b k d.2 q (none_at conn a d.0 q (λ e. ap d.0.lines e ∙ d.1.is_gone) d.1.others.lines_stay h)
not_served s (Drained conn ∷ steps) a b k d q h = not_served s steps d.0 b k d.2 q (none_at conn a d.0 q (λ e. ap d.0.lines e ∙ d.1.is_gone) d.1.others.lines_stay h)

pub serves_no_new : {C : Type 0} (s : CoreSteps C) (a b : Lanes s.Seen) → DoesOn s a b → ServesNoNew a b
serves_no_new s a b d = not_served s d.0 a b d.1 d.2
