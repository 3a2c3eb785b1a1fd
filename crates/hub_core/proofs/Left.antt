-- What a step leaves of the work under way.
use Rattle.std.proofs.Common.{◌≡◌, ◌<◌, ◌∙◌, ℕ, List, Bool, true, false, Option, Some, None, ap, arith, refl, subst, sym}
use Rattle.std.specs.Prelude.{if◌then◌else◌}
use Rattle.std.specs.BTreeMap.{is_at}
use Rattle.std.specs.Ordering.{nat_cmp}
use Rattle.std.proofs.lemmas.Bool.Decides.{nat_tests}
use Rattle.outbox.specs.Appends.{Appends, IsLess, OthersKeep}
use Rattle.outbox.specs.declared.answers.Step.{Step}
use Rattle.outbox.specs.declared.answers.Step.TheVariants.{Replied, Idle, Last, Refused, Working}
use Rattle.wire_frames.specs.Framing.{Framing}
use Rattle.path_hub.specs.HubState.{HubState}
use Rattle.path_hub.specs.Sessions.{Sessions, Sets, session}
use Rattle.path_hub.specs.UnderWay.{Clears}
use Rattle.path_hub.specs.WorkLeft.{Falls, WorkIsLeft, work_left_at}
use Rattle.path_hub.specs.declared.tasks.Tasks.{Tasks}
use Rattle.hub_core.specs.Answering.{Answers, IsIdle, is_over}
use Rattle.hub_core.specs.Steps.{AtWork, Works, is_kept_back, left_at}

at_same : (p q : ℕ) → is_at (nat_cmp p) q ≡ true → q ≡ p
at_same p q h = grind (arith, nat_tests)

picked : {A : Type 0} (b : Bool) (x y z : A) → (b ≡ true → z ≡ x) → (b ≡ false → z ≡ y) → z ≡ (if b then x else y)
picked true x y z f g = f refl
picked false x y z f g = g refl

-- a session is set to what it is
same_sets : (conn : ℕ) (ss : Sessions) → Sets conn (session conn ss) ss ss
same_sets conn ss q = picked (is_at (nat_cmp conn) q) (session conn ss) (session q ss) (session q ss) (λ e. ap (λ (k : ℕ). session k ss) (at_same conn q e)) (λ e. refl)

less_by : (was now : Option ℕ) → Falls was now → IsLess was now
less_by was now f = subst (λ (x : Option ℕ). IsLess was x) (sym f.some) (at was f.less)
  where
    at : (was : Option ℕ) → ((n : ℕ) → was ≡ Some n → f.left < n) → IsLess was (Some f.left)
    at None h = tt
    at (Some n) h = h n refl

-- all that a connection has under way is given up
pub others_left : WorkIsLeft → (conn : ℕ) (h : HubState) (old new : Tasks) → Clears conn old new → OthersKeep left_at conn (record { hub = h; tasks = old }) (record { hub = h; tasks = new })
others_left law conn h old new c q n = law.others conn q (session conn h.sessions) h h old new n (same_sets conn h.sessions) refl c

-- a session is set, and all that the connection has under way is given up
pub others_set : WorkIsLeft → (conn : ℕ) (v : Option Framing) (h h' : HubState) (old new : Tasks) → Sets conn v h.sessions h'.sessions → h'.tenants ≡ h.tenants → Clears conn old new → OthersKeep left_at conn (record { hub = h; tasks = old }) (record { hub = h'; tasks = new })
others_set law conn v h h' old new s e c q n = law.others conn q v h h' old new n s (ap (λ t. t.keys) e) c

module _ (law : WorkIsLeft) (units : Option ℕ) (is_brief : Bool) (conn : ℕ) (old new : AtWork) (before after : List ℕ) where
  -- where a query or a reading went on, less is left
  pub less_left : (step : Step) (has_gone_on : Bool) → Appends (Answers conn) (IsIdle conn) (is_over conn) step old.hub before after new.hub → Works step units has_gone_on is_brief conn old new
      → step ≡ Working → has_gone_on ≡ true → IsLess (left_at conn old) (left_at conn new)
  less_left Working true a w e f =
      less_by (left_at conn old) (left_at conn new) (subst (λ (h : HubState). Falls (left_at conn old) (work_left_at conn h new.tasks)) (sym a.1) (law.falls conn old.hub w.framing old.tasks new.tasks w.was w.works))
  less_left Working false a w e f = absurd cc
  less_left Replied g a w e f = absurd cc
  less_left Last g a w e f = absurd cc
  less_left Idle g a w e f = absurd cc
  less_left Refused g a w e f = absurd cc

  -- where none did, the request is kept back, and nothing changed
  pub kept_back : (step : Step) (has_gone_on : Bool) → Appends (Answers conn) (IsIdle conn) (is_over conn) step old.hub before after new.hub → Works step units has_gone_on is_brief conn old new
      → step ≡ Working → has_gone_on ≡ false → (is_kept_back is_brief conn old ≡ true) × (new ≡ old)
  kept_back Working false a w e f = (w.0, λ i. record { hub = a.1 i; tasks = w.1 i })
  kept_back Working true a w e f = absurd cc
  kept_back Replied g a w e f = absurd cc
  kept_back Last g a w e f = absurd cc
  kept_back Idle g a w e f = absurd cc
  kept_back Refused g a w e f = absurd cc

  -- where no request waits, what is left is as before
  pub none_left : (step : Step) (has_gone_on : Bool) → Appends (Answers conn) (IsIdle conn) (is_over conn) step old.hub before after new.hub → Works step units has_gone_on is_brief conn old new
      → step ≡ Idle → left_at conn new ≡ left_at conn old
  none_left Idle g a w e = λ i. work_left_at conn (a.2 i) (w.1 i)
  none_left Replied g a w e = absurd cc
  none_left Last g a w e = absurd cc
  none_left Refused g a w e = absurd cc
  none_left Working g a w e = absurd cc

  -- what others have under way stays
  pub others_answered : (step : Step) (has_gone_on : Bool) → Appends (Answers conn) (IsIdle conn) (is_over conn) step old.hub before after new.hub → Works step units has_gone_on is_brief conn old new → OthersKeep left_at conn old new
  others_answered Replied g a w q n = let r = a.2 in law.others conn q (Some r.left) old.hub new.hub old.tasks new.tasks n r.sets (law.keys old.hub.tenants new.hub.tenants r.body a.0 r.step) w.1
  others_answered Last g a w q n = let r = a.2 in law.others conn q (Some r.left) old.hub new.hub old.tasks new.tasks n r.sets (law.keys old.hub.tenants new.hub.tenants r.body a.0 r.step) w.1
  others_answered Idle g a w q n = λ i. work_left_at q (a.2 i) (w.1 i)
  others_answered Refused g a w q n = ap (λ (h : HubState). work_left_at q h new.tasks) a.1 ∙ others_left law conn old.hub old.tasks new.tasks w.1 q n
  others_answered Working true a w q n = ap (λ (h : HubState). work_left_at q h new.tasks) a.1 ∙ law.beside conn q old.hub w.framing old.tasks new.tasks n w.works
  others_answered Working false a w q n = λ i. work_left_at q (a.1 i) (w.1 i)
