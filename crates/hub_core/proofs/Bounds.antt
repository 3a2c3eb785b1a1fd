-- No reply is longer than what is said before it is given.
use Rattle.std.proofs.Common.{◌≡◌, ◌≤◌, ◌+◌, ◌*◌, ℕ, suc, List, [], ◌∷◌, ◌++◌, length, min, Bool, true, false, cond, nat_lt, Option, Some, None, unwrap_or, refl, sym, ap, ◌∙◌, subst, arith, length-append, inl, inr}
use Rattle.std.specs.Bool.{MatchBool}
use Rattle.std.specs.Map.{keys_of, lookup, values_of}
use Rattle.std.specs.Option.{option_map_or, option_and_then}
use Rattle.std.specs.Prelude.{slice_get}
use Rattle.std.proofs.lemmas.Bool.Decides.{nat_tests}
use Rattle.std.proofs.lemmas.List.Sums.{sum_by-cons}
use Rattle.path_grammar.specs.Tree.{Segments}
use Rattle.tape_select.specs.Budget.{budget}
use Rattle.tape_select.specs.Charge.{charge}
use Rattle.store_names.specs.Lengths.{payload_limit}
use Rattle.wire_frames.specs.Frames.{Front, front}
use Rattle.wire_frames.specs.Framing.{Framing}
use Rattle.wire_frames.specs.Requests.{Asked, Get, Put, PutNew, Remove, ListNames, Query, DropCollection, Usage, Reading, Short, BadCommand, BadFields, Asks, reading, number_of, key_of}
use Rattle.wire_frames.specs.Replies.{reply, head}
use Rattle.wire_frames.specs.Readings.{refusal}
use Rattle.wire_frames.specs.declared.requests.RequestFault.{RequestFault}
use Rattle.wire_frames.specs.declared.requests.RequestFault.TheVariants as fault
use Rattle.tenant_map.specs.declared.faults.StoreFault.{StoreFault}
use Rattle.tenant_map.specs.declared.faults.StoreFault.TheVariants.{Costly, ReplyTooLarge}
use Rattle.tenant_map.specs.Kept.{AreKept, texts}
use Rattle.tenant_map.specs.Maps.{Map, Documents, documents_of, documents_in}
use Rattle.tenant_map.specs.Tenancy.{Tenancy, place_in}
use Rattle.tenant_map.specs.Listings.{number, name_field, names_listed, listing}
use Rattle.tenant_map.specs.Keyed.{at}
use Rattle.tenant_store.specs.Payloads.{Text, found_in, found_bytes, hit_count, query_fault, AnswersQuery}
use Rattle.request_replies.specs.Answers.{IsAnswer, AnswersReading, is_no_memory, usage_payload}
use Rattle.request_replies.specs.Tenants.{ServesBody, ServesBy, BodyMayWant, map_of, is_short, short_number}
use Rattle.path_hub.specs.Runs.{StepItem}
use Rattle.path_hub.specs.Pending.{Takes}
use Rattle.path_hub.specs.Sessions.{session}
use Rattle.path_hub.specs.HubState.{HubState}
use Rattle.hub_core.specs.Replies.{body_at, IsMostFor, IsMostBy, IsMostTo, IsMostReply, Fits}

-- ---- Payloads

length-number : (n : ℕ) → length (number n) ≡ 4
unfolding number
length-number n = refl

fault_by : (x y : Bool) (others : Option StoreFault) → cond x (Some Costly) (cond y (Some ReplyTooLarge) others) ≡ None → (y ≡ false) × (others ≡ None)
fault_by true y others h = absurd cc
fault_by false true others h = absurd cc
fault_by false false others h = (refl, h)

at_most : (a b : ℕ) → nat_lt a b ≡ false → b ≤ a
at_most a b h = grind (arith, nat_tests)

-- hits that are not refused are within the limit
found_short : (q : Segments) (spent size : ℕ) (ts : List Text) → query_fault q spent size ts ≡ None → size ≤ payload_limit → size + length (found_bytes q ts) ≤ payload_limit
unfolding query_fault
found_short q spent size [] h l = omega (arith, l)
found_short q spent size (t ∷ ts) h l =
    let k = fault_by (nat_lt budget (spent + charge t.tree q)) (nat_lt payload_limit (size + length (found_in q t))) _ h in
    let others = found_short q (spent + charge t.tree q) (size + length (found_in q t)) ts k.1 (at_most _ _ k.0) in
    omega (arith, others, length-append (found_in q t) (found_bytes q ts))

-- as many texts as entries
pub length-texts : (es : _) → length (texts es) ≡ length es
length-texts [] = refl
length-texts (e ∷ es) = ap suc (length-texts es)

-- each name takes at most 129 bytes
pub names_short : (es : _) → AreKept es → length (names_listed (keys_of (texts es))) ≤ 129 * length es
names_short [] a = omega arith
names_short (e ∷ es) a =
    let h = names_short es a.1 in let s = a.0.short in
    omega (arith, h, s, length-append (name_field e.0.items) (names_listed (keys_of (texts es))))

-- a list of so many names, each of at most 129 bytes with its length
pub list_short : (ds : Documents) (n : ℕ) → length (names_listed (keys_of ds)) ≤ 129 * n → length (listing ds) ≤ 4 + 129 * n
list_short ds n h = omega (arith, h, length-append (number (length ds)) (names_listed (keys_of ds)), length-number (length ds))

-- no collection has more documents than all have
pub held_few : (c : List ℕ) (m : Map) → length (documents_of c m) ≤ documents_in m
held_few c [] = omega arith
held_few c (e ∷ m) =
    let rest = held_few c m in
    let all = sum_by-cons length e.1 (values_of m) in
    elim (at c e.0) as (λ b. length (unwrap_or (cond b (Some e.1) (lookup (at c) m)) []) ≤ documents_in (e ∷ m)) [ true ↦ omega (arith, all) | false ↦ omega (arith, all, rest) ]

pub within_all : (l n all : ℕ) → l ≤ 4 + 129 * n → n ≤ all → 9 + l ≤ 13 + min n all * 129
within_all l n all h k = omega (arith, h, k)

pub hits_short : (q : Segments) (ds : Documents) (payload : List ℕ) → AnswersQuery q ds [] payload → length payload ≤ payload_limit
hits_short q ds payload a =
    let n = hit_count q a.texts in
    let e : length payload ≡ length (number n ++ found_bytes q a.texts) = ap (λ (x : List ℕ). length x) a.appended in
    omega (arith, e, length-append (number n) (found_bytes q a.texts), length-number n, found_short q 0 4 a.texts a.no_fault (omega arith))

pub usage_length : (m : Map) (payload : List ℕ) → payload ≡ usage_payload m → length payload ≡ 12
unfolding number
usage_length m payload e = ap (λ (x : List ℕ). length x) e

-- ---- Commands that are done

pub for_put : (c d text : List ℕ) (m : Map) → IsMostFor (Put c d text) m 21
for_put c d text m payload m' x = omega (arith, ap (λ (y : List ℕ). length y) x.1)

pub for_put_new : (c d text : List ℕ) (m : Map) → IsMostFor (PutNew c d text) m 21
for_put_new c d text m payload m' x = omega (arith, ap (λ (y : List ℕ). length y) x.1)

pub for_remove : (c d : List ℕ) (m : Map) → IsMostFor (Remove c d) m 21
for_remove c d m payload m' x = omega (arith, ap (λ (y : List ℕ). length y) x.1)

pub for_drop : (c : List ℕ) (m : Map) → IsMostFor (DropCollection c) m 21
for_drop c m payload m' x = omega (arith, ap (λ (y : List ℕ). length y) x.1)

pub for_usage : (m : Map) → IsMostFor Usage m 21
for_usage m payload m' x = omega (arith, usage_length m payload x.0)

pub for_query : (c text : List ℕ) (m : Map) → IsMostFor (Query c text) m 8388612
for_query c text m payload m' x = omega (arith, hits_short x.0.0 (documents_of c m) payload x.0.2)

pub for_list : (c : List ℕ) (m : Map) (most : ℕ) → 9 + length (listing (documents_of c m)) ≤ most → IsMostFor (ListNames c) m most
for_list c m most h payload m' x = omega (arith, h, ap (λ (y : List ℕ). length y) x.0)

-- ---- Replies

reply_length : (status n : ℕ) (payload : List ℕ) → length (reply status n payload) ≡ 9 + length payload
unfolding reply
reply_length status n payload = length-append (head status n (length payload)) payload

-- one without a payload
bare : (status n most : ℕ) (frame : List ℕ) → 9 ≤ most → frame ≡ reply status n [] → length frame ≤ most
bare status n most frame h e = omega (arith, h, ap (λ (x : List ℕ). length x) e, reply_length status n [])

-- what fits exactly is no longer either
fits_most : (asked : Asked) (bytes most : ℕ) → Fits asked bytes most → bytes ≤ most
fits_most (Get c d) bytes most h = omega (arith, h)
fits_most (Put c d text) bytes most h = h
fits_most (PutNew c d text) bytes most h = h
fits_most (Remove c d) bytes most h = h
fits_most (ListNames c) bytes most h = h
fits_most (Query c text) bytes most h = h
fits_most (DropCollection c) bytes most h = h
fits_most Usage bytes most h = h

to_command : (asked : Asked) (n most : ℕ) (m m' : Map) (frame : List ℕ) → 9 ≤ most → IsMostFor asked m most → IsAnswer asked n m frame m' → length frame ≤ most
to_command asked n most m m' frame h k (inl d) = omega (arith, fits_most asked (9 + length d.payload) most (k d.payload m' d.does), ap (λ (x : List ℕ). length x) d.frame_is, reply_length 0 n d.payload)
to_command asked n most m m' frame h k (inr r) = bare r.status n most frame h r.frame_is

to_reading : (r : Reading) (most : ℕ) (m m' : Map) (frame : List ℕ) → 9 ≤ most → ((n : ℕ) (key : List ℕ) (asked : Asked) → r ≡ Asks n key asked → IsMostFor asked m most) → AnswersReading r m frame m' → length frame ≤ most
to_reading (Short n) most m m' frame h k a = bare 1 n most frame h a.0
to_reading (BadCommand n key) most m m' frame h k a = bare 3 n most frame h a.0
to_reading (BadFields n key) most m m' frame h k a = bare 4 n most frame h a.0
to_reading (Asks n key asked) most m m' frame h k a = to_command asked n most m m' frame h (k n key asked refl) a

by_map : (o : Option Map) (t new : Tenancy) (body frame : List ℕ) (most : ℕ) → 9 ≤ most → ((n : ℕ) (key : List ℕ) (asked : Asked) → reading body ≡ Asks n key asked → IsMostBy asked o most) → ServesBy o body t frame new → length frame ≤ most
by_map None t new body frame most h k s = bare 2 (number_of body) most frame h s.0
by_map (Some m) t new body frame most h k s = to_reading (reading body) most m s.0 frame h k s.1

to_long : (short : Bool) (t new : Tenancy) (body frame : List ℕ) (most : ℕ) → 9 ≤ most → IsMostTo t body most
    → MatchBool short ((frame ≡ reply 1 (short_number body) []) × (new ≡ t)) (ServesBy (map_of (key_of body) t) body t frame new) → length frame ≤ most
to_long true t new body frame most h k s = bare 1 (short_number body) most frame h s.0
to_long false t new body frame most h k s = by_map (map_of (key_of body) t) t new body frame most h k s

to_body : (wants : Bool) (t new : Tenancy) (body frame : List ℕ) (most : ℕ) → 9 ≤ most → IsMostTo t body most
    → MatchBool wants ((frame ≡ reply 21 (number_of body) []) × (new ≡ t) × BodyMayWant t body) (ServesBody t body frame new) → length frame ≤ most
to_body true t new body frame most h k s = bare 21 (number_of body) most frame h s.0
to_body false t new body frame most h k s = to_long (is_short body) t new body frame most h k s

to_item : (o : Option (List ℕ)) (f left : Framing) (t new : Tenancy) (frame : List ℕ) (most : ℕ) → 9 ≤ most → ((body : List ℕ) → body_at (front f.waiting) ≡ Some body → IsMostTo t body most)
    → StepItem t o frame new → Takes f o left → length frame ≤ most
to_item None f left t new frame most h k s takes = bare 255 0 most frame h s.0
to_item (Some body) f left t new frame most h k s takes = to_body (is_no_memory frame) t new body frame most h (k body (ap (λ (x : Front). body_at x) takes.2)) s

pub to_first : (conn : ℕ) (hub : HubState) (t : Tenancy) (bytes : List ℕ) (most : ℕ) → t ≡ hub.tenants → bytes ≡ option_map_or (λ f. f.waiting) (session conn hub.sessions) [] → 9 ≤ most
    → ((body : List ℕ) → body_at (front bytes) ≡ Some body → IsMostTo t body most) → IsMostReply conn hub most
to_first conn hub t bytes most same e h k frame new a =
    let w : bytes ≡ a.framing.waiting = e ∙ ap (λ (s : Option Framing). option_map_or (λ (f : Framing). f.waiting) s []) a.was in
    to_item a.body a.framing a.left hub.tenants new.tenants frame most h
    (λ body b. subst (λ (x : Tenancy). IsMostTo x body most) same (k body (ap (λ (x : List ℕ). body_at (front x)) w ∙ b))) a.step a.takes_off

-- ---- What a request is

some_same : (a b : List ℕ) → Some a ≡ Some b → a ≡ b
some_same a b e = cc

pub of_same : (t : Tenancy) (body other : List ℕ) (most : ℕ) → IsMostTo t body most → Some body ≡ Some other → IsMostTo t other most
of_same t body other most k e = subst (λ (x : List ℕ). IsMostTo t x most) (some_same body other e) k

asks_same : (n n' : ℕ) (key key' : List ℕ) (x y : Asked) → Asks n key x ≡ Asks n' key' y → x ≡ y
asks_same n n' key key' x y e = cc

pub of_request : (t : Tenancy) (body key : List ℕ) (n most : ℕ) (asked : Asked) → Asks n key asked ≡ reading body → key ≡ key_of body → IsMostBy asked (map_of key t) most → IsMostTo t body most
of_request t body key n most asked e k h other_n other_key other r =
    let same : asked ≡ other = asks_same n other_n key other_key asked other (e ∙ r) in
    subst (λ (x : Asked). IsMostBy x (map_of (key_of body) t) most) same (subst (λ (x : List ℕ). IsMostBy asked (map_of x t) most) k h)

-- what is refused asks nothing
pub of_refusal : (t : Tenancy) (body : List ℕ) (most : ℕ) (f : RequestFault) → refusal f ≡ reading body → IsMostTo t body most
of_refusal t body most (fault.Short n) e other_n other_key other r = let x : Short n ≡ Asks other_n other_key other = e ∙ r in absurd cc
of_refusal t body most (fault.BadCommand n key) e other_n other_key other r = let x : BadCommand n key ≡ Asks other_n other_key other = e ∙ r in absurd cc
of_refusal t body most (fault.BadFields n key) e other_n other_key other r = let x : BadFields n key ≡ Asks other_n other_key other = e ∙ r in absurd cc

pub of_tenant : (t : Tenancy) (key : List ℕ) (place most : ℕ) (asked : Asked) (m : Map) → place_in t.keys key ≡ Some place → slice_get t.maps place ≡ Some m → IsMostFor asked m most → IsMostBy asked (map_of key t) most
of_tenant t key place most asked m p s h =
    let e : map_of key t ≡ Some m = ap (λ (o : Option ℕ). option_and_then (λ i. slice_get t.maps i) o) p ∙ s in
    subst (λ (o : Option Map). IsMostBy asked o most) (sym e) h

pub of_none : (t : Tenancy) (key : List ℕ) (most : ℕ) (asked : Asked) → place_in t.keys key ≡ None → IsMostBy asked (map_of key t) most
of_none t key most asked p =
    let e : map_of key t ≡ None = ap (λ (o : Option ℕ). option_and_then (λ i. slice_get t.maps i) o) p in
    subst (λ (o : Option Map). IsMostBy asked o most) (sym e) tt
