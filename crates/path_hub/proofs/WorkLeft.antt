-- What is left of the first request on a connection, as it is worked on, answered and given up.
use Rattle.std.proofs.Common.{◌≡◌, ◌≢◌, ◌<◌, ℕ, List, [], Bool, true, false, ◌&&◌, eqb, Option, Some, None, cond, refl, sym, ap, ◌∙◌, subst, inl, inr, arith}
use Rattle.std.specs.Prelude.{option_and_then}
use Rattle.std.specs.Bool.{MatchBool}
use Rattle.std.specs.Option.{option_map}
use Rattle.std.proofs.lemmas.Bool.Decides.{nat_tests}
use Rattle.std.proofs.lemmas.Option.{none-some, same_Some}
use Rattle.std.proofs.lemmas.Slice.Eq.{bytes_eq-Decides}
use Rattle.tenant_map.specs.Maps.{Map}
use Rattle.tenant_map.specs.Tenancy.{Tenancy, place_in}
use Rattle.tenant_store.specs.Walks.{work_left}
use Rattle.wire_frames.specs.Frames.{Whole, front}
use Rattle.wire_frames.specs.Framing.{Framing}
use Rattle.wire_frames.specs.NextFrame.{next_at, next_of}
use Rattle.wire_frames.specs.declared.framing.Next.{Next}
use Rattle.wire_frames.specs.declared.framing.Next.TheVariants as next
use Rattle.wire_frames.specs.Replies.{reply}
use Rattle.wire_frames.specs.Requests as wire
use Rattle.wire_frames.specs.Requests.{Asks, Query, key_of, number_of, reading}
use Rattle.request_replies.specs.Answers.{is_no_memory}
use Rattle.request_replies.specs.Tenants.{BodyMayWant, ServesBody, ServesBy, is_short, map_of, put_at, short_number}
use Rattle.path_hub.specs.declared.tasks.Reading.{Reading}
use Rattle.path_hub.specs.declared.tasks.RunningQuery.{RunningQuery}
use Rattle.path_hub.specs.declared.tasks.Tasks.{Tasks}
use Rattle.path_hub.specs.HubState.{HubState}
use Rattle.path_hub.specs.Runs.{StepItem, same}
use Rattle.path_hub.specs.Sessions.{Sets, session}
use Rattle.path_hub.specs.UnderWay.{Clears, GoesOn, IsOf, ReadsOn, WorksOnFirst, is_long, reading_at, task_at, text_in}
use Rattle.path_hub.specs.WorkLeft.{Falls, WorkIsLeft, asked_left, is_of, next_left, query_left, read_left, text_left, work_left_at}
use Rattle.path_hub.proofs.UnderWay.{at_itself, not_at, other_reading, other_task, task_same}

-- ---- The test of a query

all_three : (x y z : Bool) → x ≡ true → y ≡ true → z ≡ true → (x && y && z) ≡ true
all_three x y z a b c = ap (λ t. t && y && z) a ∙ ap (λ t. true && t && z) b ∙ ap (λ t. true && true && t) c

each_three : (x y z : Bool) → (x && y && z) ≡ true → (x ≡ true) × (y ≡ true) × (z ≡ true)
each_three true true true e = (refl, refl, refl)
each_three true true false e = absurd cc
each_three true false z e = absurd cc
each_three false y z e = absurd cc

is_its : (a : RunningQuery) (place : ℕ) (c x : List ℕ) → IsOf a place c x → is_of a place c x ≡ true
is_its a place c x (p, k, t) =
    all_three (eqb a.place place) (same a.collection.items c) (same a.query.items x) (here a.place place p) ((bytes_eq-Decides a.collection.items c).1 k) ((bytes_eq-Decides a.query.items x).1 t)
  where
    here : (p q : ℕ) → p ≡ q → eqb p q ≡ true
    here p q e = grind (arith, nat_tests)

its_is : (a : RunningQuery) (place : ℕ) (c x : List ℕ) → is_of a place c x ≡ true → IsOf a place c x
its_is a place c x e =
    let k = each_three (eqb a.place place) (same a.collection.items c) (same a.query.items x) e in
    (there a.place place k.0, (bytes_eq-Decides a.collection.items c).0 k.1, (bytes_eq-Decides a.query.items x).0 k.2)
  where
    there : (p q : ℕ) → eqb p q ≡ true → p ≡ q
    there p q e = grind (arith, nat_tests)

-- ---- Less is left

-- the query that goes on
query_falls : (conn place : ℕ) (c x : List ℕ) (old new : Tasks) → GoesOn conn place c x old new → Falls (query_left conn place c x old) (query_left conn place c x new)
query_falls conn place c x old new g = record {
  left = work_left g.asked.task.value;
  some = ap (λ o. option_and_then left_of o) (g.sets conn ∙ ap (λ b. cond b (Some g.asked) (task_at conn old)) (at_itself conn)) ∙ ap (λ b. cond b (Some (work_left g.asked.task.value)) None) (is_its g.asked place c x g.its);
  less = λ n e. was (task_at conn old) refl n e;
}
  where
    left_of : RunningQuery → Option ℕ
    left_of a = cond (is_of a place c x) (Some (work_left a.task.value)) None

    fewer : (a : RunningQuery) (n : ℕ) → task_at conn old ≡ Some a → (b : Bool) → is_of a place c x ≡ b → cond b (Some (work_left a.task.value)) None ≡ Some n → work_left g.asked.task.value < n
    fewer a n h true i e = subst (λ k. work_left g.asked.task.value < k) (same_Some (work_left a.task.value) n e) (g.less a h (its_is a place c x i))
    fewer a n h false i e = absurd (none-some n e)

    was : (o : Option RunningQuery) → task_at conn old ≡ o → (n : ℕ) → option_and_then left_of o ≡ Some n → work_left g.asked.task.value < n
    was None h n e = absurd (none-some n e)
    was (Some a) h n e = fewer a n h (is_of a place c x) refl e

-- the text that is read on
text_falls : (conn : ℕ) (body : List ℕ) (old new : Tasks) → is_long body ≡ true → ReadsOn conn old new → Falls (text_left conn body old) (text_left conn body new)
text_falls conn body old new l r = record {
  left = r.reading.task.value.left;
  some = long new ∙ ap (option_map left_of) (r.sets conn ∙ ap (λ b. cond b (Some r.reading) (reading_at conn old)) (at_itself conn));
  less = λ n e. was (reading_at conn old) refl n (sym (long old) ∙ e);
}
  where
    left_of : Reading → ℕ
    left_of k = k.task.value.left

    long : (tasks : Tasks) → text_left conn body tasks ≡ option_map left_of (reading_at conn tasks)
    long tasks = ap (λ b. cond b (option_map left_of (reading_at conn tasks)) None) l

    was : (o : Option Reading) → reading_at conn old ≡ o → (n : ℕ) → option_map left_of o ≡ Some n → r.reading.task.value.left < n
    was None h n e = absurd (none-some n e)
    was (Some k) h n e = subst (λ m. r.reading.task.value.left < m) (same_Some (left_of k) n e) (r.less k h)

-- a put
put_left : (conn place : ℕ) (body : List ℕ) (asked : wire.Asked) (text : List ℕ) (tasks : Tasks) → text_in asked ≡ Some text → asked_left conn place body asked tasks ≡ text_left conn body tasks
put_left conn place body (wire.Put c d x) text tasks e = refl
put_left conn place body (wire.PutNew c d x) text tasks e = refl
put_left conn place body (Query c x) text tasks e = absurd cc
put_left conn place body (wire.Get c d) text tasks e = absurd cc
put_left conn place body (wire.Remove c d) text tasks e = absurd cc
put_left conn place body (wire.ListNames c) text tasks e = absurd cc
put_left conn place body (wire.DropCollection c) text tasks e = absurd cc
put_left conn place body wire.Usage text tasks e = absurd cc

-- what is in front
left_in_front : (conn : ℕ) (h : HubState) (f : Framing) (body behind key : List ℕ) (number place : ℕ) (asked : wire.Asked) (tasks : Tasks) → session conn h.sessions ≡ Some f → front f.waiting ≡ Whole body behind → Asks number key asked ≡ reading body
    → place_in h.tenants.keys key ≡ Some place → work_left_at conn h tasks ≡ asked_left conn place body asked tasks
left_in_front conn h f body behind key number place asked tasks s e r p =
    ap (λ o. option_and_then (λ (g : Framing). next_left conn (next_of g) h.tenants.keys tasks) o) s ∙ ap (λ n. next_left conn (next_at n) h.tenants.keys tasks) e ∙ ap (λ k. read_left conn body k h.tenants.keys tasks) (sym r)
    ∙ ap (λ o. option_and_then (λ q. asked_left conn q body asked tasks) o) p

falls_as : (was now was' now' : Option ℕ) → was' ≡ was → now' ≡ now → Falls was now → Falls was' now'
falls_as was now was' now' a b f = record { left = f.left; some = b ∙ f.some; less = λ n e. f.less n (sym a ∙ e) }

works_falls : (conn : ℕ) (h : HubState) (f : Framing) (old new : Tasks) → session conn h.sessions ≡ Some f → WorksOnFirst conn f h.tenants old new → Falls (work_left_at conn h old) (work_left_at conn h new)
works_falls conn h f old new s (body, behind, e, inl (a, g)) =
    let at = λ (tasks : Tasks). left_in_front conn h f body behind a.key a.number a.place (Query a.collection a.text) tasks s e a.reads a.placed in
    falls_as _ _ _ _ (at old) (at new) (query_falls conn a.place a.collection a.text old new g)
works_falls conn h f old new s (body, behind, e, inr (p, r)) =
    let at = λ (tasks : Tasks). left_in_front conn h f body behind p.key p.number p.place p.asked tasks s e p.reads p.placed ∙ put_left conn p.place body p.asked p.text tasks p.puts in
    falls_as _ _ _ _ (at old) (at new) (text_falls conn body old new p.long r)

-- ---- What is left of another's, and of what is given up

-- what holds of all that may be asked holds of what is in front
module _ (Holds : Option ℕ → Option ℕ → Type 0) (conn : ℕ) (old new : Tasks) (none : Holds None None) (each : (place : ℕ) (body : List ℕ) (asked : wire.Asked) → Holds (asked_left conn place body asked old) (asked_left conn place body asked new)) where
  of_placed : (body : List ℕ) (asked : wire.Asked) (o : Option ℕ) → Holds (option_and_then (λ place. asked_left conn place body asked old) o) (option_and_then (λ place. asked_left conn place body asked new) o)
  of_placed body asked None = none
  of_placed body asked (Some place) = each place body asked

  of_read : (body : List ℕ) (keys : List (List ℕ)) (r : wire.Reading) → Holds (read_left conn body r keys old) (read_left conn body r keys new)
  of_read body keys (wire.Short number) = none
  of_read body keys (wire.BadCommand number key) = none
  of_read body keys (wire.BadFields number key) = none
  of_read body keys (Asks number key asked) = of_placed body asked (place_in keys key)

  of_next : (keys : List (List ℕ)) (n : Next) → Holds (next_left conn n keys old) (next_left conn n keys new)
  of_next keys (next.Frame body) = of_read body keys (reading body)
  of_next keys next.Wait = none
  of_next keys next.Fault = none

  of_first : (keys : List (List ℕ)) (o : Option Framing) → Holds (option_and_then (λ f. next_left conn (next_of f) keys old) o) (option_and_then (λ f. next_left conn (next_of f) keys new) o)
  of_first keys None = none
  of_first keys (Some f) = of_next keys (next_of f)

asked_same : (q : ℕ) (old new : Tasks) → task_at q new ≡ task_at q old → reading_at q new ≡ reading_at q old → (place : ℕ) (body : List ℕ) (asked : wire.Asked) → asked_left q place body asked new ≡ asked_left q place body asked old
asked_same q old new t r place body (Query c x) = ap (λ o. option_and_then (λ (a : RunningQuery). cond (is_of a place c x) (Some (work_left a.task.value)) None) o) t
asked_same q old new t r place body (wire.Put c d x) = ap (λ o. cond (is_long body) (option_map (λ (k : Reading). k.task.value.left) o) None) r
asked_same q old new t r place body (wire.PutNew c d x) = ap (λ o. cond (is_long body) (option_map (λ (k : Reading). k.task.value.left) o) None) r
asked_same q old new t r place body (wire.Get c d) = refl
asked_same q old new t r place body (wire.Remove c d) = refl
asked_same q old new t r place body (wire.ListNames c) = refl
asked_same q old new t r place body (wire.DropCollection c) = refl
asked_same q old new t r place body wire.Usage = refl

stays : (q : ℕ) (h h' : HubState) (old new : Tasks) → session q h'.sessions ≡ session q h.sessions → h'.tenants.keys ≡ h.tenants.keys → task_at q new ≡ task_at q old → reading_at q new ≡ reading_at q old → work_left_at q h' new ≡ work_left_at q h old
stays q h h' old new s k t r =
    ap (λ o. option_and_then (λ (f : Framing). next_left q (next_of f) h'.tenants.keys new) o) s ∙ ap (λ ks. option_and_then (λ (f : Framing). next_left q (next_of f) ks new) (session q h.sessions)) k
    ∙ of_first (λ x y. x ≡ y) q new old refl (asked_same q old new t r) h.tenants.keys (session q h.sessions)

no_text : (conn : ℕ) (tasks : Tasks) (body : List ℕ) → reading_at conn tasks ≡ None → text_left conn body tasks ≡ None
no_text conn tasks body r = ap (λ o. cond (is_long body) (option_map (λ (k : Reading). k.task.value.left) o) None) r ∙ either (is_long body)
  where
    either : (b : Bool) → cond b (option_map (λ (k : Reading). k.task.value.left) None) None ≡ None
    either true = refl
    either false = refl

asked_none : (conn : ℕ) (tasks : Tasks) → task_at conn tasks ≡ None → reading_at conn tasks ≡ None → (place : ℕ) (body : List ℕ) (asked : wire.Asked) → asked_left conn place body asked tasks ≡ None
asked_none conn tasks t r place body (Query c x) = ap (λ o. option_and_then (λ (a : RunningQuery). cond (is_of a place c x) (Some (work_left a.task.value)) None) o) t
asked_none conn tasks t r place body (wire.Put c d x) = no_text conn tasks body r
asked_none conn tasks t r place body (wire.PutNew c d x) = no_text conn tasks body r
asked_none conn tasks t r place body (wire.Get c d) = refl
asked_none conn tasks t r place body (wire.Remove c d) = refl
asked_none conn tasks t r place body (wire.ListNames c) = refl
asked_none conn tasks t r place body (wire.DropCollection c) = refl
asked_none conn tasks t r place body wire.Usage = refl

-- ---- The keys

put_keys : (o : Option ℕ) (m : Map) (t : Tenancy) → (put_at o m t).keys ≡ t.keys
put_keys None m t = refl
put_keys (Some place) m t = refl

served_keys : (o : Option Map) (body frame : List ℕ) (old new : Tenancy) → ServesBy o body old frame new → new.keys ≡ old.keys
served_keys None body frame old new s = ap (λ (t : Tenancy). t.keys) s.1
served_keys (Some m) body frame old new s = ap (λ (t : Tenancy). t.keys) s.2 ∙ put_keys (place_in old.keys (key_of body)) s.0 old

body_keys : (b : Bool) (body frame : List ℕ) (old new : Tenancy) → MatchBool b ((frame ≡ reply 1 (short_number body) []) × (new ≡ old)) (ServesBy (map_of (key_of body) old) body old frame new) → new.keys ≡ old.keys
body_keys true body frame old new s = ap (λ (t : Tenancy). t.keys) s.1
body_keys false body frame old new s = served_keys (map_of (key_of body) old) body frame old new s

step_keys : (b : Bool) (body frame : List ℕ) (old new : Tenancy) → MatchBool b ((frame ≡ reply 21 (number_of body) []) × (new ≡ old) × BodyMayWant old body) (ServesBody old body frame new) → new.keys ≡ old.keys
step_keys true body frame old new s = ap (λ (t : Tenancy). t.keys) s.1
step_keys false body frame old new s = body_keys (is_short body) body frame old new s

keys_stay : (old new : Tenancy) (body : Option (List ℕ)) (frame : List ℕ) → StepItem old body frame new → new.keys ≡ old.keys
keys_stay old new None frame s = ap (λ (t : Tenancy). t.keys) s.1
keys_stay old new (Some body) frame s = step_keys (is_no_memory frame) body frame old new s

-- ---- All together

works_beside : (conn q : ℕ) (h : HubState) (f : Framing) (old new : Tasks) → q ≢ conn → WorksOnFirst conn f h.tenants old new → work_left_at q h new ≡ work_left_at q h old
works_beside conn q h f old new n (body, behind, e, inl (a, g)) = stays q h h old new refl refl (other_task conn (Some g.asked) old new g.sets q n) (other_reading conn None old new g.reading q n)
works_beside conn q h f old new n (body, behind, e, inr (p, r)) = stays q h h old new refl refl (task_same q old new r.same) (other_reading conn (Some r.reading) old new r.sets q n)

ends : (conn : ℕ) (h : HubState) (old new : Tasks) → Clears conn old new → work_left_at conn h new ≡ None
ends conn h old new c =
    of_first (λ x y. x ≡ None) conn new new refl
    (asked_none conn new (c.query conn ∙ ap (λ b. cond b None (task_at conn old)) (at_itself conn)) (c.reading conn ∙ ap (λ b. cond b None (reading_at conn old)) (at_itself conn))) h.tenants.keys (session conn h.sessions)

others : (conn q : ℕ) (v : Option Framing) (h h' : HubState) (old new : Tasks) → q ≢ conn → Sets conn v h.sessions h'.sessions → h'.tenants.keys ≡ h.tenants.keys → Clears conn old new → work_left_at q h' new ≡ work_left_at q h old
others conn q v h h' old new n s k c = stays q h h' old new (s q ∙ ap (λ b. cond b v (session q h.sessions)) (not_at conn q n)) k (other_task conn None old new c.query q n) (other_reading conn None old new c.reading q n)

pub is_left : WorkIsLeft
is_left = record { falls = works_falls; beside = works_beside; ends = ends; others = others; stays = stays; keys = keys_stay }
