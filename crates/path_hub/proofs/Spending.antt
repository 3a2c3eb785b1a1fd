-- What a share of a query spends.
use Rattle.std.proofs.Common.{◌≡◌, inr, ℕ, List, Option, Some, None, Result, Ok, Err, cond, sym, ap, ◌∙◌, subst}
use Rattle.std.proofs.lemmas.Option.{same_Some}
use Rattle.std.specs.Prelude.{Box, slice_get, IfOk}
use Rattle.std.specs.declared.alloc.Global.{Global}
use Rattle.tenant_map.specs.Maps.{Map}
use Rattle.tenant_map.specs.Tenancy.{Tenancy}
use Rattle.tenant_store.specs.declared.tasks.Progress.{Progress}
use Rattle.tenant_store.specs.declared.tasks.Progress.TheVariants.{Complete, Paused}
use Rattle.tenant_store.specs.declared.tasks.QueryTask.{QueryTask}
use Rattle.wire_frames.specs.Frames.{Whole, front}
use Rattle.wire_frames.specs.Framing.{Framing}
use Rattle.wire_frames.specs.NextFrame.{next_at, next_of}
use Rattle.wire_frames.specs.declared.framing.Next.TheVariants.{Frame}
use Rattle.wire_frames.specs.Readings.{asked_of}
use Rattle.wire_frames.specs.Requests.{Query}
use Rattle.request_replies.specs.Shares.{IsPlaced, Spends, SpendsOn, left_with}
use Rattle.request_replies.specs.declared.placing.Placed.{Placed}
use Rattle.path_hub.specs.declared.tasks.RunningQuery.{RunningQuery}
use Rattle.path_hub.specs.declared.tasks.Tasks.{Tasks}
use Rattle.path_hub.specs.declared.tasks.Advance.{Advance}
use Rattle.path_hub.specs.declared.tasks.Advance.TheVariants as share
use Rattle.path_hub.specs.HubState.{state}
use Rattle.path_hub.specs.Sessions.{Sessions, session}
use Rattle.path_hub.specs.UnderWay.{BeginsWith, IsAsked, SetsTask, SpendsAt, SpendsBody, SpendsFirst, SpendsOnBody, SpendsQuery, query_in, task_at}
use Rattle.path_hub.proofs.UnderWay.{asks_query, at_itself, task_same}

-- it begins with what its task has left
begins : (conn : ℕ) (request : Placed) (old : Tasks) (c text : List ℕ) (asked : Option RunningQuery) (task : Option (Box QueryTask Global)) → asked ≡ task_at conn old
    → ((a : RunningQuery) → asked ≡ Some a → IsAsked a request → task ≡ Some a.task) → (asked ≡ None → task ≡ None) → asked_of request.command ≡ Query c text → BeginsWith conn request.place c text old (left_with task)
begins conn request old c text asked task was same only e = record {
  going = λ a h o. ap left_with (same a (was ∙ h) (o.0, ap query_in e ∙ ap (λ x. Some (x, text)) (sym o.1) ∙ ap (λ x. Some (a.collection.items, x)) (sym o.2)));
  anew = λ h. ap left_with (only (was ∙ h));
}

on_body : (conn : ℕ) (t : Tenancy) (body : List ℕ) (request : Placed) (m : Map) (old : Tasks) (units : ℕ) (asked : Option RunningQuery) (task : Option (Box QueryTask Global)) (to : Progress) → IsPlaced t body request → slice_get t.maps request.place ≡ Some m
    → asked ≡ task_at conn old → ((a : RunningQuery) → asked ≡ Some a → IsAsked a request → task ≡ Some a.task) → (asked ≡ None → task ≡ None) → SpendsOn (asked_of request.command) m units (left_with task) to → SpendsOnBody conn body t old units to
on_body conn t body request m old units asked task to p h was same only s = record {
  asks = asks_query t body request s.collection s.text p s.asks;
  map = m;
  at = h;
  tree = s.tree;
  valid = s.valid;
  left = left_with task;
  begins = begins conn request old s.collection s.text asked task was same only s.asks;
  spends = s.spends;
}

pub replied_spends : (charge : Option ℕ) (conn : ℕ) (t : Tenancy) (body : List ℕ) (request : Placed) (m : Map) (old new : Tasks) (units : ℕ) (asked : Option RunningQuery) (task : Option (Box QueryTask Global)) → IsPlaced t body request → slice_get t.maps request.place ≡ Some m
    → asked ≡ task_at conn old → ((a : RunningQuery) → asked ≡ Some a → IsAsked a request → task ≡ Some a.task) → (asked ≡ None → task ≡ None) → Spends (Ok charge) (asked_of request.command) m units (left_with task) → SpendsQuery (share.Replied charge) conn body t old new units
replied_spends None conn t body request m old new units asked task p h was same only s = tt
replied_spends (Some charge) conn t body request m old new units asked task p h was same only s = on_body conn t body request m old units asked task (Complete charge) p h was same only s

pub works_spends : (conn : ℕ) (t : Tenancy) (body : List ℕ) (request : Placed) (m : Map) (old mid new : Tasks) (units : ℕ) (asked : Option RunningQuery) (task : Option (Box QueryTask Global)) (to : Box QueryTask Global) → IsPlaced t body request → slice_get t.maps request.place ≡ Some m
    → asked ≡ task_at conn old → ((a : RunningQuery) → asked ≡ Some a → IsAsked a request → task ≡ Some a.task) → (asked ≡ None → task ≡ None) → Spends (Err to) (asked_of request.command) m units (left_with task)
    → ((a : RunningQuery) × IsAsked a request × (a.task ≡ to) × SetsTask conn (Some a) mid new) → SpendsQuery share.Working conn body t old new units
works_spends conn t body request m old mid new units asked task to p h was same only s (a, i, e, put) = (
  a,
  put conn ∙ ap (λ b. cond b (Some a) (task_at conn mid)) (at_itself conn),
  subst (λ (k : Box QueryTask Global). SpendsOnBody conn body t old units (Paused k.value)) (sym e) (on_body conn t body request m old units asked task (Paused to.value) p h was same only s),
)

-- over tasks of which readings differ
spends_before : (conn : ℕ) (body : List ℕ) (t : Tenancy) (old mid : Tasks) (units : ℕ) (to : Progress) → mid.asked.entries ≡ old.asked.entries → SpendsOnBody conn body t mid units to → SpendsOnBody conn body t old units to
spends_before conn body t old mid units to same s =
    let b = s.begins in
    record {
      asks = s.asks;
      map = s.map;
      at = s.at;
      tree = s.tree;
      valid = s.valid;
      left = s.left;
      begins = record { going = λ a h o. b.going a (task_same conn old mid same ∙ h) o; anew = λ h. b.anew (task_same conn old mid same ∙ h) };
      spends = s.spends;
    }

pub body_spends : (s : Advance) (conn : ℕ) (body : List ℕ) (t : Tenancy) (old mid new : Tasks) (units : ℕ) → mid.asked.entries ≡ old.asked.entries → SpendsQuery s conn body t mid new units → SpendsBody s conn body t old new units
body_spends (share.Replied None) conn body t old mid new units same s = tt
body_spends (share.Replied (Some charge)) conn body t old mid new units same s = spends_before conn body t old mid units (Complete charge) same s
body_spends share.Idle conn body t old mid new units same s = tt
body_spends share.Working conn body t old mid new units same (a, h, s) = inr (a, h, spends_before conn body t old mid units (Paused a.task.value) same s)

-- the body in front
pub first_spends : (s : Advance) (conn : ℕ) (body first others : List ℕ) (f : Framing) (t : Tenancy) (old new : Tasks) (units : ℕ) → Frame body ≡ next_of f → front f.waiting ≡ Whole first others → SpendsBody s conn body t old new units → SpendsBody s conn first t old new units
first_spends s conn body first others f t old new units n e b =
    let k : Frame body ≡ Frame first = n ∙ ap next_at e in
    let same : body ≡ first = cc in
    subst (λ x. SpendsBody s conn x t old new units) same b

-- on a connection
pub spends_at : {E : Type 0} (conn : ℕ) (ss : Sessions) (t : Tenancy) (old new : Tasks) (units : ℕ) (f : Framing) (r : Result Advance E) → session conn ss ≡ Some f → IfOk r (λ s. SpendsFirst s conn f t old new units) → IfOk r (λ s. SpendsAt s conn (state ss t) old new units)
spends_at conn ss t old new units f (Ok s) h k = λ g e. subst (λ x. SpendsFirst s conn x t old new units) (same_Some f g (sym h ∙ e)) k
spends_at conn ss t old new units f (Err x) h k = k
