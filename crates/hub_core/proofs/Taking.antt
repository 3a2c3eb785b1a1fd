-- What a piece leaves of the work under way: the first frame that is whole stays in front.
use Rattle.std.proofs.Common.{◌≡◌, ◌∙◌, ℕ, List, [], ◌∷◌, ◌++◌, Bool, true, false, Option, Some, None, Result, Ok, Err, ap, arith, refl, sym, inl, inr}
use Rattle.std.specs.Prelude.{if◌then◌else◌, option_and_then}
use Rattle.std.specs.BTreeMap.{is_at}
use Rattle.std.specs.Ordering.{nat_cmp}
use Rattle.std.proofs.lemmas.Bool.Decides.{nat_tests}
use Rattle.outbox.specs.Appends.{KeepsWork}
use Rattle.wire_frames.specs.Frames.{Front, Whole, Wait, Fault, Split, front, frames, rest}
use Rattle.wire_frames.specs.Framing.{Framing, with_piece}
use Rattle.wire_frames.specs.NextFrame.{next_at, next_of}
use Rattle.wire_frames.specs.Splitting.{Splitting}
use Rattle.wire_frames.specs.declared.framing.Next.{Next}
use Rattle.wire_frames.specs.declared.framing.Next.TheVariants as next
use Rattle.tenant_map.specs.Tenancy.{Tenancy}
use Rattle.path_hub.specs.HubState.{HubState}
use Rattle.path_hub.specs.Into.{IsTaken, Takes}
use Rattle.path_hub.specs.Sessions.{session}
use Rattle.path_hub.specs.WorkLeft.{next_left, work_left_at}
use Rattle.path_hub.specs.declared.fault.TakeFault.{TakeFault}
use Rattle.path_hub.specs.declared.fault.TakeFault.TheVariants as fault
use Rattle.path_hub.specs.declared.tasks.Tasks.{Tasks}

first : List (List ℕ) → List ℕ
first [] = []
first (x ∷ xs) = x

-- a whole frame in front stays there
front_stays : Splitting → (stream more body left : List ℕ) → front stream ≡ Whole body left → next_at (front (stream ++ more)) ≡ next.Frame body
unfolding first
front_stays law stream more body left h = at (front (stream ++ more)) refl
  where
    all : frames (stream ++ more) ≡ body ∷ (frames left ++ frames (rest stream ++ more))
    all = ap (λ (s : Split). s.frames) (law.prefix stream more) ∙ ap (λ (s : Split). s.frames ++ frames (rest stream ++ more)) (law.whole stream body left h)

    at : (f : Front) → front (stream ++ more) ≡ f → next_at f ≡ next.Frame body
    at (Whole b m) e = ap (λ (xs : List (List ℕ)). next.Frame (first xs)) (sym (ap (λ (s : Split). s.frames) (law.whole (stream ++ more) b m e)) ∙ all)
    at Wait e = let n : [] ≡ body ∷ (frames left ++ frames (rest stream ++ more)) = sym (ap (λ (s : Split). s.frames) (law.wait (stream ++ more) e)) ∙ all in absurd cc
    at Fault e = let n : [] ≡ body ∷ (frames left ++ frames (rest stream ++ more)) = sym (ap (λ (s : Split). s.frames) (law.fault (stream ++ more) e)) ∙ all in absurd cc

keeps_none : (u v : Option ℕ) → u ≡ None → KeepsWork u v
keeps_none u None e = inl (sym e)
keeps_none None (Some n) e = inr tt
keeps_none (Some m) (Some n) e = absurd cc

at_self : (p : ℕ) → is_at (nat_cmp p) p ≡ true
at_self p = grind (arith, nat_tests)

picked : {A : Type 0} (b : Bool) (x y : A) → b ≡ true → (if b then x else y) ≡ x
picked true x y e = refl
picked false x y e = absurd cc

-- what is left with a session that stands so
left_with : (conn : ℕ) (h : HubState) (tasks : Tasks) (f : Framing) → session conn h.sessions ≡ Some f → work_left_at conn h tasks ≡ next_left conn (next_of f) h.tenants.keys tasks
left_with conn h tasks f e = ap (λ (x : Option Framing). option_and_then (λ g. next_left conn (next_of g) h.tenants.keys tasks) x) e

piece_keeps : Splitting → (conn : ℕ) (piece : List ℕ) (old new : HubState) (tasks : Tasks) → IsTaken conn piece old new → KeepsWork (work_left_at conn old tasks) (work_left_at conn new tasks)
piece_keeps law conn piece old new tasks t = at (front t.framing.waiting) refl
  where
    now : session conn new.sessions ≡ Some (with_piece t.framing piece)
    now = t.sets conn ∙ picked (is_at (nat_cmp conn) conn) (Some (with_piece t.framing piece)) (session conn old.sessions) (at_self conn)

    was : (x : Next) → next_of t.framing ≡ x → work_left_at conn old tasks ≡ next_left conn x old.tenants.keys tasks
    was x e = left_with conn old tasks t.framing t.was ∙ ap (λ (y : Next). next_left conn y old.tenants.keys tasks) e

    at : (f : Front) → front t.framing.waiting ≡ f → KeepsWork (work_left_at conn old tasks) (work_left_at conn new tasks)
    at (Whole body more) e = inl (left_with conn new tasks (with_piece t.framing piece) now
        ∙ ap (λ (y : Next). next_left conn y new.tenants.keys tasks) (front_stays law t.framing.waiting piece body more e)
        ∙ ap (λ (x : Tenancy). next_left conn (next.Frame body) x.keys tasks) t.tenants_stay
        ∙ sym (was (next.Frame body) (ap next_at e)))
    at Wait e = keeps_none _ _ (was next.Wait (ap next_at e))
    at Fault e = keeps_none _ _ (was next.Fault (ap next_at e))

pub taken_keeps : Splitting → (conn : ℕ) (piece : List ℕ) (old new : HubState) (tasks : Tasks) (r : Result (Unit {0}) TakeFault) → Takes conn piece old r new → KeepsWork (work_left_at conn old tasks) (work_left_at conn new tasks)
taken_keeps law conn piece old new tasks (Ok u) t = piece_keeps law conn piece old new tasks t
taken_keeps law conn piece old new tasks (Err fault.NoConnection) t = inl (ap (λ (h : HubState). work_left_at conn h tasks) t.1)
taken_keeps law conn piece old new tasks (Err fault.Closed) t = inl (ap (λ (h : HubState). work_left_at conn h tasks) t.1)
taken_keeps law conn piece old new tasks (Err fault.Memory) t = inl (ap (λ (h : HubState). work_left_at conn h tasks) t.1)
