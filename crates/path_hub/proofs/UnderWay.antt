-- Queries under way, as tenants and their queries change.
use Rattle.std.proofs.Common.{◌≡◌, ◌≢◌, ◌<◌, inl, ℕ, zero, suc, set, List, [], ◌∷◌, Bool, true, false, not, ◌&&◌, ◌||◌, eqb, Option, Some, None, Result, Ok, Err, cond, refl, sym, ap, ◌∙◌, subst, arith}
use Rattle.std.specs.Prelude.{Box, slice_get, IfOk, IfSome, is_some, length, nat_lt}
use Rattle.std.specs.BTreeMap.{is_at}
use Rattle.std.specs.List.{list_any}
use Rattle.std.specs.Map.{lookup}
use Rattle.std.specs.Option.{option_map_or}
use Rattle.std.specs.Ordering.{nat_cmp}
use Rattle.std.proofs.lemmas.Bool.Decides.{nat_tests}
use Rattle.std.proofs.lemmas.List.{set-get_or}
use Rattle.std.proofs.lemmas.Option.{get_or_from_slice_get, none-some, same_Some}
use Rattle.std.specs.declared.alloc.Global.{Global}
use Rattle.tenant_map.specs.Maps.{Map}
use Rattle.tenant_map.specs.Tenancy.{Tenancy, place_in, with_map}
use Rattle.tenant_store.specs.Walks.{work_left}
use Rattle.tenant_store.specs.declared.tasks.QueryTask.{QueryTask}
use Rattle.wire_frames.specs.Frames.{Whole, front}
use Rattle.wire_frames.specs.Framing.{Framing}
use Rattle.wire_frames.specs.Splitting.{Splitting}
use Rattle.wire_frames.specs.Readings.{asked_of}
use Rattle.wire_frames.specs.Requests as wire
use Rattle.wire_frames.specs.Requests.{Asks, Query, key_of}
use Rattle.wire_frames.specs.declared.framing.Next.{Next}
use Rattle.wire_frames.specs.declared.framing.Next.TheVariants as next
use Rattle.json_tape.specs.Shares.{ReadShare}
use Rattle.json_tape.specs.Going as Reached
use Rattle.json_tape.specs.declared.progress.Progress.{Progress}
use Rattle.json_tape.specs.declared.progress.Progress.TheVariants.{Paused}
use Rattle.path_hub.specs.declared.tasks.RunningQuery.{RunningQuery}
use Rattle.path_hub.specs.declared.tasks.Reading.{Reading}
use Rattle.path_hub.specs.declared.tasks.Tasks.{Tasks}
use Rattle.path_hub.specs.declared.tasks.Advance.{Advance}
use Rattle.path_hub.specs.declared.tasks.Advance.TheVariants as share
use Rattle.request_replies.specs.Answers.{Gives, MayWant}
use Rattle.request_replies.specs.Laws.{ServesPlaces}
use Rattle.request_replies.specs.Shares.{Goes, IsChargeOf, IsPlaced, IsUnderWay}
use Rattle.request_replies.specs.Tenants.{Serves}
use Rattle.request_replies.specs.declared.placing.Placed.{Placed}
use Rattle.path_hub.specs.Sessions.{Sessions, session, Sets}
use Rattle.path_hub.specs.HubState.{state}
use Rattle.path_hub.specs.UnderWay.{AreOnWay, AsksQuery, Clears, GoesOn, IsAsked, IsBodyCharge, IsChargeAt, IsFirstCharge, PutsLong, ReadsOn, SetsReading, SetsTask, SharesBody, SharesFirst, SharesQuery, Shares, has_other, is_held, is_kept, is_long, is_next_held, is_of_tenant, is_other, may_read, query_in, reading_at, task_at, tenant_asked, text_in}
use Rattle.path_hub.proofs.Calls.{one_step}

at_same : (p q : ℕ) → is_at (nat_cmp p) q ≡ true → q ≡ p
at_same p q h = grind (arith, nat_tests)

pub at_itself : (p : ℕ) → is_at (nat_cmp p) p ≡ true
at_itself p = grind (arith, nat_tests)

at_other : (p q : ℕ) → is_at (nat_cmp p) q ≡ false → q ≢ p
at_other p q h e = absurd (let t : is_at (nat_cmp p) q ≡ true = ap (λ k. is_at (nat_cmp p) k) e ∙ at_itself p in let n : true ≡ false = sym t ∙ h in cc)

pub none_on_way : (t : Tenancy) (tasks : Tasks) → tasks.asked.entries ≡ [] → AreOnWay t tasks
none_on_way t tasks e conn a m h here = absurd (none-some a (ap (λ es. lookup (is_at (nat_cmp conn)) es) (sym e) ∙ h))

-- ---- One connection's query is set

-- what is left is on its way, and so is what is set
pub set_on_way : (t : Tenancy) (conn : ℕ) (v : Option RunningQuery) (old new : Tasks) → AreOnWay t old → SetsTask conn v old new
    → ((a : RunningQuery) (m : Map) → v ≡ Some a → slice_get t.maps a.place ≡ Some m → Goes a.collection.items a.query.items m a.task.value) → AreOnWay t new
set_on_way t conn v old new w s g q a m k h = by (is_at (nat_cmp conn) q) refl
  where
    by : (b : Bool) → is_at (nat_cmp conn) q ≡ b → Goes a.collection.items a.query.items m a.task.value
    by true e = g a m (sym (s q ∙ ap (λ b. cond b v (task_at q old)) e) ∙ k) h
    by false e = w q a m (sym (s q ∙ ap (λ b. cond b v (task_at q old)) e) ∙ k) h

pub out_on_way : (t : Tenancy) (conn : ℕ) (old new : Tasks) → AreOnWay t old → SetsTask conn None old new → AreOnWay t new
out_on_way t conn old new w s = set_on_way t conn None old new w s (λ a m e h. absurd (none-some a e))

-- set twice
pub sets_twice : (conn : ℕ) (v w : Option RunningQuery) (old mid new : Tasks) → SetsTask conn v old mid → SetsTask conn w mid new → SetsTask conn w old new
sets_twice conn v w old mid new a b q = b q ∙ ap (cond (is_at (nat_cmp conn) q) w) (a q) ∙ twice (is_at (nat_cmp conn) q)
  where
    twice : (c : Bool) → cond c w (cond c v (task_at q old)) ≡ cond c w (task_at q old)
    twice true = refl
    twice false = refl

sets_still : (conn : ℕ) (v : Option RunningQuery) (old mid new : Tasks) → SetsTask conn v old mid → new.asked.entries ≡ mid.asked.entries → SetsTask conn v old new
sets_still conn v old mid new a e q = ap (λ es. lookup (is_at (nat_cmp q)) es) e ∙ a q

-- ---- Who waits

both : (k conn p place : ℕ) → k ≢ conn → p ≡ place → (not (eqb k conn) && eqb p place) ≡ true
both k conn p place n e = ap (λ b. not b && eqb p place) (other k conn n) ∙ ap (λ b. not false && b) (own p place e)
  where
    other : (k conn : ℕ) → k ≢ conn → eqb k conn ≡ false
    other k conn n = grind (arith, nat_tests)

    own : (p place : ℕ) → p ≡ place → eqb p place ≡ true
    own p place e = grind (arith, nat_tests)

-- what another connection has of the tenant is found
found : (conn place q : ℕ) (a : RunningQuery) (es : List (ℕ × RunningQuery)) → lookup (is_at (nat_cmp q)) es ≡ Some a → q ≢ conn → a.place ≡ place → list_any (is_other place conn) es ≡ true
found conn place q a [] h n p = absurd (none-some a h)
found conn place q a (e ∷ es) h n p = by (is_at (nat_cmp q) e.0) refl (λ h. found conn place q a es h n p)
  where
    rest : Bool
    rest = list_any (is_other place conn) es

    or_true : (x : Bool) → (x || true) ≡ true
    or_true true = refl
    or_true false = refl

    by : (b : Bool) → is_at (nat_cmp q) e.0 ≡ b → (lookup (is_at (nat_cmp q)) es ≡ Some a → rest ≡ true) → (is_other place conn e || rest) ≡ true
    by true r again =
        let same : e.1 ≡ a = same_Some e.1 a (sym (ap (λ b. cond b (Some e.1) (lookup (is_at (nat_cmp q)) es)) r) ∙ h) in
        let key : e.0 ≡ q = at_same q e.0 r in
        ap (λ b. b || rest) (both e.0 conn e.1.place place (λ k. n (sym key ∙ k)) (ap (λ (x : RunningQuery). x.place) same ∙ p))
    by false r again = ap (λ b. is_other place conn e || b) (again (sym (ap (λ b. cond b (Some e.1) (lookup (is_at (nat_cmp q)) es)) r) ∙ h)) ∙ or_true (is_other place conn e)

-- the tenant of what a body asks
placed_at : (law : ServesPlaces) (t : Tenancy) (body : List ℕ) (request : Placed) → IsPlaced t body request → tenant_asked t body ≡ Some request.place
placed_at law t body request p =
    let s = law.whole body request.number p.key (asked_of request.command) p.reads in
    ap (λ b. cond b None (place_in t.keys (key_of body))) s.0 ∙ ap (place_in t.keys) (sym s.1) ∙ p.at

-- a body that does not wait is behind no query of its tenant
pub held_behind : (law : ServesPlaces) (conn : ℕ) (body : List ℕ) (t : Tenancy) (request : Placed) (old new : Tasks) → IsPlaced t body request → new.asked.entries ≡ old.asked.entries → is_held conn body t old ≡ false → has_other request.place conn new ≡ false
held_behind law conn body t request old new p same h =
    ap (λ es. list_any (is_other request.place conn) es) same ∙ first (has_other request.place conn old) _ (sym (ap (λ o. option_map_or (λ place. is_kept place conn body old) o false) (placed_at law t body request p)) ∙ h)
  where
    first : (a b : Bool) → (a || b) ≡ false → a ≡ false
    first false b e = refl
    first true b e = absurd cc

-- nothing waits where nothing is under way
none_kept : (conn : ℕ) (body : List ℕ) (tasks : Tasks) → tasks.asked.entries ≡ [] → tasks.readings.entries ≡ [] → (place : ℕ) → is_kept place conn body tasks ≡ false
none_kept conn body tasks a r place =
    ap (λ es. list_any (is_other place conn) es || (is_long body && not (may_read place conn tasks))) a
    ∙ ap (λ es. is_long body && not (is_some (lookup (is_at (nat_cmp conn)) es) || (nat_lt (length es) 4 && not (list_any (is_of_tenant place) es)))) r ∙ last (is_long body)
  where
    last : (b : Bool) → (b && false) ≡ false
    last true = refl
    last false = refl

none_of : (conn : ℕ) (body : List ℕ) (tasks : Tasks) → ((place : ℕ) → is_kept place conn body tasks ≡ false) → (o : Option ℕ) → option_map_or (λ place. is_kept place conn body tasks) o false ≡ false
none_of conn body tasks h None = refl
none_of conn body tasks h (Some place) = h place

pub none_held : (conn : ℕ) (next : Next) (t : Tenancy) (tasks : Tasks) → tasks.asked.entries ≡ [] → tasks.readings.entries ≡ [] → is_next_held conn next t tasks ≡ false
none_held conn (next.Frame body) t tasks a r = none_of conn body tasks (none_kept conn body tasks a r) (tenant_asked t body)
none_held conn next.Wait t tasks a r = refl
none_held conn next.Fault t tasks a r = refl

-- a text is read on, and no query goes on
pub read_on_way : (t : Tenancy) (old new : Tasks) → new.asked.entries ≡ old.asked.entries → AreOnWay t old → AreOnWay t new
read_on_way t old new same w q a m k h = w q a m (sym (ap (λ es. lookup (is_at (nat_cmp q)) es) same) ∙ k) h

pub not_at : (p q : ℕ) → q ≢ p → is_at (nat_cmp p) q ≡ false
not_at p q n = by (is_at (nat_cmp p) q) refl
  where
    by : (b : Bool) → is_at (nat_cmp p) q ≡ b → b ≡ false
    by true e = absurd (n (at_same p q e))
    by false e = refl

-- where one connection's is set, the others' stay
pub other_task : (conn : ℕ) (v : Option RunningQuery) (old new : Tasks) → SetsTask conn v old new → (q : ℕ) → q ≢ conn → task_at q new ≡ task_at q old
other_task conn v old new s q n = s q ∙ ap (λ b. cond b v (task_at q old)) (not_at conn q n)

pub other_reading : (conn : ℕ) (v : Option Reading) (old new : Tasks) → SetsReading conn v old new → (q : ℕ) → q ≢ conn → reading_at q new ≡ reading_at q old
other_reading conn v old new s q n = s q ∙ ap (λ b. cond b v (reading_at q old)) (not_at conn q n)

-- a reading is set over tasks of which no other connection's differs
reading_before : (conn : ℕ) (v : Option Reading) (old mid new : Tasks) → ((q : ℕ) → q ≢ conn → reading_at q mid ≡ reading_at q old) → SetsReading conn v mid new → SetsReading conn v old new
reading_before conn v old mid new others s q = s q ∙ by (is_at (nat_cmp conn) q) refl
  where
    by : (b : Bool) → is_at (nat_cmp conn) q ≡ b → cond b v (reading_at q mid) ≡ cond b v (reading_at q old)
    by true e = refl
    by false e = others q (at_other conn q e)

reading_still : (conn : ℕ) (v : Option Reading) (old mid new : Tasks) → SetsReading conn v old mid → new.readings.entries ≡ mid.readings.entries → SetsReading conn v old new
reading_still conn v old mid new a e q = ap (λ es. lookup (is_at (nat_cmp q)) es) e ∙ a q

pub clears_still : (conn : ℕ) (old mid new : Tasks) → Clears conn old mid → new.asked.entries ≡ mid.asked.entries → new.readings.entries ≡ mid.readings.entries → Clears conn old new
clears_still conn old mid new c a r = record { query = sets_still conn None old mid new c.query a; reading = reading_still conn None old mid new c.reading r }

reading_twice : (conn : ℕ) (v w : Option Reading) (old mid new : Tasks) → SetsReading conn v old mid → SetsReading conn w mid new → SetsReading conn w old new
reading_twice conn v w old mid new a b q = b q ∙ ap (cond (is_at (nat_cmp conn) q) w) (a q) ∙ twice (is_at (nat_cmp conn) q)
  where
    twice : (c : Bool) → cond c w (cond c v (reading_at q old)) ≡ cond c w (reading_at q old)
    twice true = refl
    twice false = refl

-- a text that was taken out and read on is put back
pub reads_on : (conn places : ℕ) (old mid new : Tasks) (reading : Option Reading) (progress : Option Progress) (task : ReadShare) → 0 < places → new.asked.entries ≡ old.asked.entries → reading ≡ reading_at conn old
    → SetsReading conn None old mid → progress ≡ Some (Paused task) → ((r : Reading) → reading ≡ Some r → IfSome progress (Reached.GoesOn r.task.value places)) → ((k : Reading) × (k.task.value ≡ task) × SetsReading conn (Some k) mid new) → ReadsOn conn old new
reads_on conn places old mid new reading progress task some same was out p goes (k, t, put) = record {
  same = same;
  reading = k;
  sets = reading_twice conn None _ old mid new out put;
  less = λ r e. (let on = subst (λ o. IfSome o (Reached.GoesOn r.task.value places)) p (goes r (was ∙ e)) in subst (λ (x : ReadShare). x.left < r.task.value.left) (sym t) (omega (arith, some, on.1)));
}

-- what a share of another task is, over tasks of which readings differ
pub sets_before : (conn : ℕ) (v : Option RunningQuery) (old mid new : Tasks) → mid.asked.entries ≡ old.asked.entries → SetsTask conn v mid new → SetsTask conn v old new
sets_before conn v old mid new same s q = s q ∙ ap (λ es. cond (is_at (nat_cmp conn) q) v (lookup (is_at (nat_cmp q)) es)) same

-- the map at another place
read_other : (ms : List Map) (i j : ℕ) (m : Map) → j ≢ i → slice_get (set ms i m) j ≡ slice_get ms j
read_other [] i j m n = refl
read_other (x ∷ ms) zero zero m n = absurd (n refl)
read_other (x ∷ ms) zero (suc j) m n = refl
read_other (x ∷ ms) (suc i) zero m n = refl
read_other (x ∷ ms) (suc i) (suc j) m n = read_other ms i j m (λ e. n (ap suc e))

-- one tenant's map is another, and of its queries none is under way but one that is taken out
pub changed_on_way : (t t' : Tenancy) (conn place : ℕ) (m : Map) (old new : Tasks) → AreOnWay t old → has_other place conn old ≡ false → SetsTask conn None old new → t' ≡ with_map t place m → AreOnWay t' new
changed_on_way t t' conn place m old new w free s e q a n k h = by (is_at (nat_cmp conn) q) refl
  where
    by : (b : Bool) → is_at (nat_cmp conn) q ≡ b → Goes a.collection.items a.query.items n a.task.value
    by true e = absurd (none-some a (sym (s q ∙ ap (λ b. cond b None (task_at q old)) e) ∙ k))
    by false apart =
        let was : task_at q old ≡ Some a = sym (s q ∙ ap (λ b. cond b None (task_at q old)) apart) ∙ k in
        w q a n was (sym (read_other t.maps place a.place m (λ p.
        let some : has_other place conn old ≡ true = found conn place q a old.asked.entries was (at_other conn q apart) p in
        let no : true ≡ false = sym some ∙ free in
        absurd cc)) ∙ ap (λ (x : Tenancy). slice_get x.maps a.place) (sym e) ∙ h)

-- ---- A share of a query

-- a query that is asked, by its parts
query_is : (asked : wire.Asked) (collection text : List ℕ) → query_in asked ≡ Some (collection, text) → asked ≡ Query collection text
query_is (Query c x) collection text e = ap (λ (p : List ℕ × List ℕ). Query p.0 p.1) (same_Some (c, x) (collection, text) e)
query_is (wire.Put c d x) collection text e = absurd cc
query_is (wire.Get c d) collection text e = absurd cc
query_is (wire.Remove c d) collection text e = absurd cc
query_is (wire.ListNames c) collection text e = absurd cc
query_is (wire.DropCollection c) collection text e = absurd cc
query_is wire.Usage collection text e = absurd cc
query_is (wire.PutNew c d x) collection text e = absurd cc

-- the task that goes on is that of what is asked
pub resumed : (t : Tenancy) (m : Map) (conn : ℕ) (request : Placed) (tasks : Tasks) (asked : Option RunningQuery) (task : Option (Box QueryTask Global)) → AreOnWay t tasks → slice_get t.maps request.place ≡ Some m → asked ≡ task_at conn tasks
    → IfSome task (λ k. IfSome asked (λ a. IsAsked a request × (a.task ≡ k))) → (asked ≡ None → task ≡ None) → IfSome task (λ k. IsUnderWay (asked_of request.command) m k.value)
resumed t m conn request tasks asked None w h e its only = tt
resumed t m conn request tasks None (Some k) w h e its only = absurd (let n : Some k ≡ None = only refl in cc)
resumed t m conn request tasks (Some a) (Some k) w h e its only = (
  a.collection.items,
  a.query.items,
  query_is (asked_of request.command) a.collection.items a.query.items its.0.1,
  subst (λ (j : Box QueryTask Global). Goes a.collection.items a.query.items m j.value) its.1 (w conn a m (sym e) (ap (λ i. slice_get t.maps i) its.0.0 ∙ h)),
)

-- what the connection had under way is taken out, and is put back with less left
pub goes_on : (conn : ℕ) (request : Placed) (old mid new : Tasks) (c text : List ℕ) (asked : Option RunningQuery) (task : Option (Box QueryTask Global)) (to : Box QueryTask Global) → Clears conn old mid → new.readings.entries ≡ mid.readings.entries → asked ≡ task_at conn old
    → ((a : RunningQuery) → asked ≡ Some a → IsAsked a request → task ≡ Some a.task) → IfSome task (λ from. work_left to.value < work_left from.value) → asked_of request.command ≡ Query c text
    → ((a : RunningQuery) × IsAsked a request × (a.task ≡ to) × SetsTask conn (Some a) mid new) → GoesOn conn request.place c text old new
goes_on conn request old mid new c text asked task to out still was same less e (a, i, t, put) =
    let parts = same_Some (a.collection.items, a.query.items) (c, text) (sym i.1 ∙ ap query_in e) in
    record {
      asked = a;
      sets = sets_twice conn None (Some a) old mid new out.query put;
      its = (i.0, ap (λ (k : List ℕ × List ℕ). k.0) parts, ap (λ (k : List ℕ × List ℕ). k.1) parts);
      less = λ b h o. subst (λ (k : Box QueryTask Global). work_left k.value < work_left b.task.value) (sym t) (fewer b.task (same b (was ∙ h) (o.0, ap query_in e ∙ ap (λ x. Some (x, text)) (sym o.1) ∙ ap (λ x. Some (b.collection.items, x)) (sym o.2))));
      reading = reading_still conn None old mid new out.reading still;
    }
  where
    fewer : (u : Box QueryTask Global) → task ≡ Some u → work_left to.value < work_left u.value
    fewer u h = subst (λ o. IfSome o (λ (from : Box QueryTask Global). work_left to.value < work_left from.value)) h less

-- a map that is set as it was
pub stays : (t t' : Tenancy) (m m' : Map) (request : Placed) → slice_get t.maps request.place ≡ Some m → t' ≡ with_map t request.place m' → m' ≡ m → t' ≡ t
stays t t' m m' request h x y =
    let same : set t.maps request.place m ≡ t.maps = ap (set t.maps request.place) (sym (get_or_from_slice_get t.maps request.place m m h)) ∙ set-get_or t.maps request.place m in
    x ∙ ap (with_map t request.place) y ∙ ap (λ ms. record t { maps = ms }) same

pub kept_on_way : (t t' : Tenancy) (m m' : Map) (conn : ℕ) (request : Placed) (old mid new : Tasks) (to : Box QueryTask Global) → AreOnWay t old → slice_get t.maps request.place ≡ Some m → t' ≡ with_map t request.place m' → m' ≡ m → SetsTask conn None old mid
    → IsUnderWay (asked_of request.command) m to.value → ((a : RunningQuery) × IsAsked a request × (a.task ≡ to) × SetsTask conn (Some a) mid new) → AreOnWay t' new
kept_on_way t t' m m' conn request old mid new to w h x y out u (a, i, e, put) =
    subst (λ k. AreOnWay k new) (sym (stays t t' m m' request h x y)) (set_on_way t conn (Some a) mid new (out_on_way t conn old mid w out) put (λ b n s k. on b n (same_Some a b s) k))
  where
    on : (b : RunningQuery) (n : Map) → a ≡ b → slice_get t.maps b.place ≡ Some n → Goes b.collection.items b.query.items n b.task.value
    on b n s k =
        let p : b.place ≡ request.place = ap (λ (x : RunningQuery). x.place) (sym s) ∙ i.0 in
        let same : m ≡ n = same_Some m n (sym h ∙ ap (λ j. slice_get t.maps j) (sym p) ∙ k) in
        let its = same_Some (u.0, u.1) (a.collection.items, a.query.items) (sym (ap query_in u.2) ∙ i.1) in
        let g : Goes a.collection.items a.query.items m to.value = subst (λ (k : List ℕ × List ℕ). Goes k.0 k.1 m to.value) its u.3 in
        subst (λ (x : RunningQuery). Goes x.collection.items x.query.items n x.task.value) s
        (subst (λ y. Goes a.collection.items a.query.items y a.task.value) same (subst (λ (j : Box QueryTask Global). Goes a.collection.items a.query.items m j.value) (sym e) g))

-- what is asked, as it is copied
pub copied : (q : Option (List ℕ × List ℕ)) (c t c' t' : List ℕ) → Some (c, t) ≡ q → c' ≡ c → t' ≡ t → q ≡ Some (c', t')
copied q c t c' t' e x y = sym e ∙ ap (λ k. Some (k, t)) (sym x) ∙ ap (λ k. Some (c', k)) (sym y)

-- ---- A share of what a body asks

abbrev pub asks_query : (t : Tenancy) (body : List ℕ) (request : Placed) (c text : List ℕ) → IsPlaced t body request → asked_of request.command ≡ Query c text → AsksQuery body t
asks_query t body request c text p e = record { number = request.number; key = p.key; collection = c; text = text; reads = ap (Asks request.number p.key) (sym e) ∙ p.reads; place = request.place; placed = p.at }

body_charge : (charge : Option ℕ) (t : Tenancy) (body : List ℕ) (request : Placed) (m : Map) → IsPlaced t body request → slice_get t.maps request.place ≡ Some m → IsChargeOf charge (asked_of request.command) m → IsBodyCharge charge body t
body_charge None t body request m p h c = tt
body_charge (Some units) t body request m p h (c, text, e, k) = (asks_query t body request c text p e, m, h, k)

-- it is answered
pub replied : (law : ServesPlaces) (charge : Option ℕ) (conn : ℕ) (t t' : Tenancy) (body : List ℕ) (request : Placed) (m m' : Map) (tasks tasks' : Tasks) (before after : List ℕ) → IsPlaced t body request → slice_get t.maps request.place ≡ Some m → t' ≡ with_map t request.place m'
    → Gives m (asked_of request.command) request.number before after m' → IsChargeOf charge (asked_of request.command) m → Clears conn tasks tasks' → SharesQuery (share.Replied charge) conn body t tasks before t' tasks' after
replied law charge conn t t' body request m m' tasks tasks' before after p h x g c s = (
  subst (λ k. Serves t body before after k) (sym x) (law.served t body before after request.number request.place p.key (asked_of request.command) m m' p.reads p.at h g),
  s,
  body_charge charge t body request m p h c,
)

-- it is a query that goes on
pub works : (conn : ℕ) (t t' : Tenancy) (body : List ℕ) (request : Placed) (m m' : Map) (c text : List ℕ) (tasks tasks' : Tasks) (before after : List ℕ) → IsPlaced t body request → slice_get t.maps request.place ≡ Some m → t' ≡ with_map t request.place m' → m' ≡ m → after ≡ before
    → asked_of request.command ≡ Query c text → GoesOn conn request.place c text tasks tasks' → SharesQuery share.Working conn body t tasks before t' tasks' after
works conn t t' body request m m' c text tasks tasks' before after p h x y o e g = (stays t t' m m' request h x y, o, (asks_query t body request c text p e, g))

-- the query of a connection stays where all entries do
pub task_same : (conn : ℕ) (old mid : Tasks) → mid.asked.entries ≡ old.asked.entries → task_at conn mid ≡ task_at conn old
task_same conn old mid same = ap (λ es. lookup (is_at (nat_cmp conn)) es) same

-- over tasks of which the connection's reading differs
pub shares_before : (s : Advance) (conn : ℕ) (body : List ℕ) (t t' : Tenancy) (old mid new : Tasks) (before after : List ℕ) → mid.asked.entries ≡ old.asked.entries → ((q : ℕ) → q ≢ conn → reading_at q mid ≡ reading_at q old)
    → SharesQuery s conn body t mid before t' new after → SharesBody s conn body t old before t' new after
shares_before (share.Replied charge) conn body t t' old mid new before after same others h = (h.0, record { query = sets_before conn None old mid new same h.1.query; reading = reading_before conn None old mid new others h.1.reading }, h.2)
shares_before share.Working conn body t t' old mid new before after same others h =
    let g = h.2.1 in (
      h.0,
      h.1,
      inl (
        h.2.0,
        record {
          asked = g.asked;
          sets = sets_before conn (Some g.asked) old mid new same g.sets;
          its = g.its;
          less = λ a e o. g.less a (task_same conn old mid same ∙ e) o;
          reading = reading_before conn None old mid new others g.reading;
        },
      ),
    )
shares_before share.Idle conn body t t' old mid new before after same others h = absurd h

-- the text that is put is that of a long body
pub puts_long : (t : Tenancy) (body text : List ℕ) (request : Placed) → IsPlaced t body request → is_long body ≡ true → text_in (asked_of request.command) ≡ Some text → PutsLong body t
puts_long t body text request p l e = record { long = l; number = request.number; key = p.key; asked = asked_of request.command; reads = p.reads; text = text; puts = e; place = request.place; placed = p.at }

-- or one for which memory runs out
pub may_want : (law : ServesPlaces) (asked : wire.Asked) (n : ℕ) (m : Map) (task : QueryTask) → IsUnderWay asked m task → MayWant asked n m
may_want law asked n m task (c, text, e, g) = subst (λ k. MayWant k n m) (sym e) (law.wanted c text n m g.valid.short)

-- ---- A share of work on a connection is one of the hub

pub first_charge : (charge : Option ℕ) (body behind : List ℕ) (f : Framing) (t : Tenancy) → front f.waiting ≡ Whole body behind → IsBodyCharge charge body t → IsFirstCharge charge f t
first_charge None body behind f t h c = tt
first_charge (Some units) body behind f t h c = (body, behind, h, c)

charge_at : (charge : Option ℕ) (conn : ℕ) (ss : Sessions) (os : Tenancy) (f : Framing) → session conn ss ≡ Some f → IsFirstCharge charge f os → IsChargeAt charge conn (state ss os)
charge_at None conn ss os f h c = tt
charge_at (Some units) conn ss os f h c = (f, h, c)

pub shared : (laws : Splitting) (conn : ℕ) (ss ss' : Sessions) (os os' : Tenancy) (tasks tasks' : Tasks) (f f' : Framing) (before after : List ℕ) (s : Advance) → session conn ss ≡ Some f → Sets conn (Some f') ss ss' → (f' ≡ f → ss' ≡ ss)
    → SharesFirst s conn f os tasks before f' os' tasks' after → Shares s conn (state ss os) tasks before (state ss' os') tasks' after
shared laws conn ss ss' os os' tasks tasks' f f' before after (share.Replied charge) h sets stay a = (one_step laws conn ss ss' os os' f f' before after true h sets stay a.0, a.1, charge_at charge conn ss os f h a.2)
shared laws conn ss ss' os os' tasks tasks' f f' before after share.Idle h sets stay a = (one_step laws conn ss ss' os os' f f' before after false h sets stay a.0, a.1)
shared laws conn ss ss' os os' tasks tasks' f f' before after share.Working h sets stay a = (ap (λ x. state x os') (stay a.0) ∙ ap (state ss) a.1, a.2, (f, h, a.3))

pub shares : {E : Type 0} (laws : Splitting) (conn : ℕ) (ss ss' : Sessions) (os os' : Tenancy) (tasks tasks' : Tasks) (f f' : Framing) (before after : List ℕ) (r : Result Advance E) → session conn ss ≡ Some f → Sets conn (Some f') ss ss' → (f' ≡ f → ss' ≡ ss)
    → IfOk r (λ s. SharesFirst s conn f os tasks before f' os' tasks' after) → IfOk r (λ s. Shares s conn (state ss os) tasks before (state ss' os') tasks' after)
shares laws conn ss ss' os os' tasks tasks' f f' before after (Ok s) h sets stay a = shared laws conn ss ss' os os' tasks tasks' f f' before after s h sets stay a
shares laws conn ss ss' os os' tasks tasks' f f' before after (Err e) h sets stay a = a
