-- How a step is made.
use Rattle.std.proofs.Common.{◌≡◌, ◌≢◌, ℕ, ◌<◌, ◌+◌, Bool, true, false, eqb, List, [], ◌∷◌, ◌++◌, length, sym, ap, ◌∙◌, subst, refl, Option, Some, None, cond, take, drop, get_or, arith, nat_lt, not, ◌&&◌, inl, inr}
use Rattle.std.specs.Bool.{MatchBool}
use Rattle.tenant_map.specs.declared.faults.StoreFault.{StoreFault}
use Rattle.tenant_map.specs.declared.faults.StoreFault.TheVariants as f
use Rattle.tenant_map.specs.Statuses.{status_of}
use Rattle.tenant_map.specs.Maps.{Map, documents_of}
use Rattle.tenant_map.specs.Answers.{RefusesPut, RefusesPutNew, FailsVerdict, missing}
use Rattle.store_names.specs.Lengths.{payload_limit}
use Rattle.tenant_store.specs.Payloads.{Text, query_fault, found_in, RefusesQuery, IsFault}
use Rattle.tenant_map.specs.Tenancy.{Tenancy, place_in, with_map}
use Rattle.tape_select.specs.Budget.{budget}
use Rattle.tape_select.specs.Charge.{charge}
use Rattle.json_tape.specs.Answer.{NoneApplies}
use Rattle.json_text.specs.declared.tape.TextFault.TheVariants as verdict
use Rattle.path_grammar.specs.Tree.{Segments}
use Rattle.path_types.specs.Verdict.{RefusesQueryText}
use Rattle.path_types.specs.declared.query_text.QueryFault.{QueryFault}
use Rattle.path_types.specs.declared.query_text.QueryFault.TheVariants as q
use Rattle.wire_frames.specs.Requests.{Reading, Short, BadCommand, BadFields, Asks, Asked, Put, Query, PutNew, reading, with_fields, asked_at, fields_of, number_of, key_of}
use Rattle.wire_frames.specs.Replies.{reply}
use Rattle.request_replies.specs.Answers.{Gives, Answers, AnswersReading, IsAnswer, Does, Refuses, HasStatus, IsMissing, RefusesHits, query_status, is_no_memory, may_want, MayWant, reading_wants, is_free, is_plain, status_in}
use Rattle.request_replies.specs.Shares.{Settles}
use Rattle.request_replies.specs.Tenants.{map_of, with_map_of, put_at, Serves, ServesBody, ServesBy, BodyMayWant, is_short, short_number}
use Rattle.std.proofs.lemmas.Bool.{false≢true}
use Rattle.std.proofs.lemmas.Option.{slice_get-get_or}
use Rattle.std.proofs.lemmas.List.{take-append-le, drop_at}
use Rattle.std.specs.Prelude.{slice_get}
use Rattle.std.proofs.lemmas.Bool.Decides.{nat_tests}
use Rattle.request_replies.proofs.Keys.{map_at_place, no_map_at, with_map_at, with_map_same}

pub at_true : (b : Bool) (A B : Type 0) → b ≡ true → MatchBool b A B → A
at_true b A B e m = subst (λ c. MatchBool c A B) e m

pub at_false : (b : Bool) (A B : Type 0) → b ≡ false → MatchBool b A B → B
at_false b A B e m = subst (λ c. MatchBool c A B) e m

pub no_memory_reply : (s n : ℕ) (p : List ℕ) → is_no_memory (reply s n p) ≡ eqb s 21
unfolding reply
no_memory_reply s n p = refl

pub status_reply : (s n : ℕ) (p : List ℕ) → status_in (reply s n p) ≡ s
unfolding reply
status_reply s n p = refl

pub made : (z : Bool) (A B : Type 0) → (z ≡ true → A) → (z ≡ false → B) → MatchBool z A B
made true A B f g = f refl
made false A B f g = g refl

-- a status that is not that memory ran out
pub plainly : (s n : ℕ) (p : List ℕ) (A B : Type 0) → eqb s 21 ≡ false → B → MatchBool (is_no_memory (reply s n p)) A B
plainly s n p A B e b = made (is_no_memory (reply s n p)) A B (λ z. absurd (false≢true (sym e ∙ sym (no_memory_reply s n p) ∙ z))) (λ z. b)

-- a command that is done
pub gives_done : (old new : Map) (asked : Asked) (n : ℕ) (before after payload : List ℕ) → after ≡ before ++ reply 0 n payload → Does asked old payload new → Gives old asked n before after new
gives_done old new asked n before after payload e d = (reply 0 n payload, e, plainly 0 n payload _ _ refl (inl (record { payload = payload; does = d; frame_is = refl })))

-- a reply without a payload
pub settled : (old new : Map) (asked : Asked) (n : ℕ) (before after : List ℕ) (s : ℕ) → Settles old asked s new → after ≡ before ++ reply s n [] → Gives old asked n before after new
settled old new asked n before after s h e = subst (λ x. Gives old asked n before x new) (sym e) (h n before)

-- a status of the store is that memory ran out for one fault alone
only_memory : (e : StoreFault) → eqb (status_of e) 21 ≡ true → e ≡ f.NoMemory
only_memory f.TooLong h = absurd cc
only_memory f.NotUtf8 h = absurd cc
only_memory f.NotJson h = absurd cc
only_memory f.TooDeep h = absurd cc
only_memory f.NumberLimit h = absurd cc
only_memory f.LoneSurrogate h = absurd cc
only_memory f.DuplicateName h = absurd cc
only_memory f.TooManyCollections h = absurd cc
only_memory f.TooManyDocuments h = absurd cc
only_memory f.TooManyBytes h = absurd cc
only_memory f.NotFound h = absurd cc
only_memory f.ReplyTooLarge h = absurd cc
only_memory f.NoMemory h = refl
only_memory f.Costly h = absurd cc
only_memory f.Exists h = absurd cc

-- a fault of the store: the definition's, or that memory ran out
pub gives_fault : (old new : Map) (asked : Asked) (n : ℕ) (before after : List ℕ) (e : StoreFault) → after ≡ before ++ reply (status_of e) n [] → new ≡ old
    → (e ≢ f.NoMemory → Refuses asked old (status_of e)) → (e ≡ f.NoMemory → MayWant asked n old) → Gives old asked n before after new
gives_fault old new asked n before after e a m r w = (
  reply (status_of e) n [],
  a,
  made (is_no_memory (reply (status_of e) n [])) _ _
      (λ z. let x = only_memory e (sym (no_memory_reply (status_of e) n []) ∙ z) in (ap (λ y. reply (status_of y) n []) x, m, w x))
      (λ z. inr (record { status = status_of e; refuses = r (λ x. false≢true (sym z ∙ no_memory_reply (status_of e) n [] ∙ ap (λ y. eqb (status_of y) 21) x)); frame_is = refl; map_is = m })),
)

-- what a command looks for is not there
pub gives_missing : (m m' : Map) (asked : Asked) (n : ℕ) (before after : List ℕ) (e : StoreFault) → after ≡ before ++ reply (status_of e) n [] → m' ≡ m → e ≡ f.NotFound
    → (e ≢ f.NoMemory → Refuses asked m (status_of e)) → Gives m asked n before after m'
gives_missing m m' asked n before after e a same missing r = gives_fault m m' asked n before after e a same r (λ x. absurd cc)

pub gives_memory : (old new : Map) (asked : Asked) (n : ℕ) (before after : List ℕ) → after ≡ before ++ reply 21 n [] → new ≡ old → MayWant asked n old → Gives old asked n before after new
gives_memory old new asked n before after a m w = (reply 21 n [], a, made (is_no_memory (reply 21 n [])) _ _ (λ z. (refl, m, w)) (λ z. absurd (false≢true (sym z ∙ no_memory_reply 21 n []))))

-- memory may be wanted for a command that is not plain
want_by : (asked : Asked) (n : ℕ) (m : Map) → is_plain asked ≡ false → ((s : ℕ) → Refuses asked m s → is_free s ≡ false) → (frame : List ℕ) (m' : Map) → IsAnswer asked n m frame m' → may_want asked frame ≡ true
want_by asked n m p r frame m' (inl d) =
    let s : status_in frame ≡ 0 = ap status_in d.frame_is ∙ status_reply 0 n d.payload in
    ap (λ x. not (is_free x) && not (eqb x 0 && is_plain asked)) s ∙ ap not p
want_by asked n m p r frame m' (inr d) =
    let s : status_in frame ≡ d.status = ap status_in d.frame_is ∙ status_reply d.status n [] in
    ap (λ x. not (is_free x) && not (eqb x 0 && is_plain asked)) s ∙ ap (λ x. not x && not (eqb d.status 0 && is_plain asked)) (r d.status d.refuses) ∙ ap (λ x. not (eqb d.status 0 && x)) p ∙ ap not (and_false (eqb d.status 0))
  where
    and_false : (t : Bool) → (t && false) ≡ false
    and_false true = refl
    and_false false = refl

pub may_want_by : (asked : Asked) (n : ℕ) (m : Map) → is_plain asked ≡ false → ((s : ℕ) → Refuses asked m s → is_free s ≡ false) → MayWant asked n m
may_want_by asked n m p r = λ frame m' a. want_by asked n m p r frame m' a

-- what is there is not missing
pub not_missing : {X : Type 0} (o : Option X) (x : X) (s : ℕ) → o ≡ Some x → HasStatus (IsMissing o) s → is_free s ≡ false
not_missing o x s h r = let y : None ≡ Some r.0 = sym (ap missing h) ∙ r.1 in absurd (cc)

-- a text that none of the first two faults is about
verdict_not_free : (t : List ℕ) (e : StoreFault) → NoneApplies t 2 → FailsVerdict t e → is_free (status_of e) ≡ false
verdict_not_free t f.TooLong none r = absurd (none verdict.TooLong (omega arith) r.0)
verdict_not_free t f.NotUtf8 none r = absurd (none verdict.NotUtf8 (omega arith) r.0)
verdict_not_free t f.NotJson none r = refl
verdict_not_free t f.TooDeep none r = refl
verdict_not_free t f.NumberLimit none r = refl
verdict_not_free t f.LoneSurrogate none r = refl
verdict_not_free t f.DuplicateName none r = refl
verdict_not_free t f.TooManyCollections none r = absurd r
verdict_not_free t f.TooManyDocuments none r = absurd r
verdict_not_free t f.TooManyBytes none r = absurd r
verdict_not_free t f.NotFound none r = absurd r
verdict_not_free t f.ReplyTooLarge none r = absurd r
verdict_not_free t f.NoMemory none r = refl
verdict_not_free t f.Costly none r = absurd r
verdict_not_free t f.Exists none r = absurd r

-- a put is refused as its text is, or with a status of its own
put_not_free : (c d t : List ℕ) (m : Map) (e : StoreFault) → NoneApplies t 2 → RefusesPut c d t m e → is_free (status_of e) ≡ false
put_not_free c d t m f.TooLong none r = verdict_not_free t f.TooLong none r
put_not_free c d t m f.NotUtf8 none r = verdict_not_free t f.NotUtf8 none r
put_not_free c d t m f.NotJson none r = verdict_not_free t f.NotJson none r
put_not_free c d t m f.TooDeep none r = verdict_not_free t f.TooDeep none r
put_not_free c d t m f.NumberLimit none r = verdict_not_free t f.NumberLimit none r
put_not_free c d t m f.LoneSurrogate none r = verdict_not_free t f.LoneSurrogate none r
put_not_free c d t m f.DuplicateName none r = verdict_not_free t f.DuplicateName none r
put_not_free c d t m f.TooManyCollections none r = refl
put_not_free c d t m f.TooManyDocuments none r = refl
put_not_free c d t m f.TooManyBytes none r = refl
put_not_free c d t m f.NotFound none r = verdict_not_free t f.NotFound none r
put_not_free c d t m f.ReplyTooLarge none r = verdict_not_free t f.ReplyTooLarge none r
put_not_free c d t m f.NoMemory none r = verdict_not_free t f.NoMemory none r
put_not_free c d t m f.Costly none r = verdict_not_free t f.Costly none r
put_not_free c d t m f.Exists none r = verdict_not_free t f.Exists none r

put_new_not_free : (c d t : List ℕ) (m : Map) (e : StoreFault) → NoneApplies t 2 → RefusesPutNew c d t m e → is_free (status_of e) ≡ false
put_new_not_free c d t m f.TooLong none r = verdict_not_free t f.TooLong none r
put_new_not_free c d t m f.NotUtf8 none r = verdict_not_free t f.NotUtf8 none r
put_new_not_free c d t m f.NotJson none r = verdict_not_free t f.NotJson none r
put_new_not_free c d t m f.TooDeep none r = verdict_not_free t f.TooDeep none r
put_new_not_free c d t m f.NumberLimit none r = verdict_not_free t f.NumberLimit none r
put_new_not_free c d t m f.LoneSurrogate none r = verdict_not_free t f.LoneSurrogate none r
put_new_not_free c d t m f.DuplicateName none r = verdict_not_free t f.DuplicateName none r
put_new_not_free c d t m f.TooManyCollections none r = refl
put_new_not_free c d t m f.TooManyDocuments none r = refl
put_new_not_free c d t m f.TooManyBytes none r = refl
put_new_not_free c d t m f.NotFound none r = verdict_not_free t f.NotFound none r
put_new_not_free c d t m f.ReplyTooLarge none r = verdict_not_free t f.ReplyTooLarge none r
put_new_not_free c d t m f.NoMemory none r = verdict_not_free t f.NoMemory none r
put_new_not_free c d t m f.Costly none r = verdict_not_free t f.Costly none r
put_new_not_free c d t m f.Exists none r = refl

pub put_may_want : (c d t : List ℕ) (n : ℕ) (m : Map) (e : StoreFault) → RefusesPut c d t m e → e ≡ f.NoMemory → MayWant (Put c d t) n m
put_may_want c d t n m e r x = may_want_by (Put c d t) n m refl (λ s h. ap is_free h.3 ∙ put_not_free c d t m h.0 (subst (λ y. RefusesPut c d t m y) x r) h.1)

pub put_new_may_want : (c d t : List ℕ) (n : ℕ) (m : Map) (e : StoreFault) → RefusesPutNew c d t m e → e ≡ f.NoMemory → MayWant (PutNew c d t) n m
put_new_may_want c d t n m e r x = may_want_by (PutNew c d t) n m refl (λ s h. ap is_free h.3 ∙ put_new_not_free c d t m h.0 (subst (λ y. RefusesPutNew c d t m y) x r) h.1)

-- what a body's reading says of its bytes
abbrev pub Shape : Reading → List ℕ → Type 0
Shape (Short n) b = (nat_lt (length b) 21 ≡ true) × (n ≡ short_number b)
Shape (BadCommand n k) b = (nat_lt (length b) 21 ≡ false) × (n ≡ number_of b) × (k ≡ key_of b)
Shape (BadFields n k) b = (nat_lt (length b) 21 ≡ false) × (n ≡ number_of b) × (k ≡ key_of b)
Shape (Asks n k asked) b = (nat_lt (length b) 21 ≡ false) × (n ≡ number_of b) × (k ≡ key_of b)

shape_fields : (b : List ℕ) (o : Option Asked) → nat_lt (length b) 21 ≡ false → Shape (with_fields (number_of b) (key_of b) o) b
shape_fields b None h = (h, refl, refl)
shape_fields b (Some asked) h = (h, refl, refl)

shape_by : (b : List ℕ) (x y z : Bool) → nat_lt (length b) 5 ≡ x → nat_lt (length b) 21 ≡ y
    → Shape (cond x (Short 0) (cond y (Short (number_of b)) (cond z (with_fields (number_of b) (key_of b) (asked_at (get_or b 0 0) (fields_of b))) (BadCommand (number_of b) (key_of b))))) b
shape_by b true y z p q = (grind (arith, nat_tests), sym (ap (λ t. cond t 0 (number_of b)) p))
shape_by b false true z p q = (q, sym (ap (λ t. cond t 0 (number_of b)) p))
shape_by b false false true p q = shape_fields b (asked_at (get_or b 0 0) (fields_of b)) q
shape_by b false false false p q = (q, refl, refl)

pub shape_of : (b : List ℕ) → Shape (reading b) b
unfolding reading
shape_of b = shape_by b (nat_lt (length b) 5) (nat_lt (length b) 21) _ refl refl

pub shape_at : (b : List ℕ) (r : Reading) → r ≡ reading b → Shape r b
shape_at b r h = subst (λ q. Shape q b) (sym h) (shape_of b)

serves_by : (os new : Tenancy) (body before after : List ℕ) (s n : ℕ) → eqb s 21 ≡ false → after ≡ before ++ reply s n [] → ServesBody os body (reply s n []) new → Serves os body before after new
serves_by os new body before after s n t e v = (reply s n [], e, plainly s n [] _ _ t v)

long_body : (os new : Tenancy) (body frame : List ℕ) → nat_lt (length body) 21 ≡ false → ServesBy (map_of (key_of body) os) body os frame new → ServesBody os body frame new
long_body os new body frame long v = subst (λ b. MatchBool b ((frame ≡ reply 1 (short_number body) []) × (new ≡ os)) (ServesBy (map_of (key_of body) os) body os frame new)) (sym long) v

-- a short body
pub serves_short : (os : Tenancy) (body before after : List ℕ) (n : ℕ) → after ≡ before ++ reply 1 n [] → Short n ≡ reading body → Serves os body before after os
serves_short os body before after n e r =
    let s = shape_at body (Short n) r in
    serves_by os os body before after 1 n refl e (subst (λ b. MatchBool b ((reply 1 n [] ≡ reply 1 (short_number body) []) × (os ≡ os)) (ServesBy (map_of (key_of body) os) body os (reply 1 n []) os)) (sym s.0) (ap (λ k. reply 1 k []) s.1, refl))

-- no tenant has the key
pub serves_none : (os : Tenancy) (body before after : List ℕ) (n : ℕ) (k : List ℕ) → after ≡ before ++ reply 2 n [] → nat_lt (length body) 21 ≡ false → n ≡ number_of body → k ≡ key_of body → place_in os.keys k ≡ None → Serves os body before after os
serves_none os body before after n k e long m j none =
    let found : map_of (key_of body) os ≡ None = ap (λ x. map_of x os) (sym j) ∙ no_map_at os k none in
    serves_by os os body before after 2 n refl e (long_body os os body (reply 2 n []) long (subst (λ (o : Option Map). ServesBy o body os (reply 2 n []) os) (sym found) (ap (λ x. reply 2 x []) m, refl)))

-- a refusal of a tenant's request before its command is looked at
pub serves_refused : (os : Tenancy) (body before after : List ℕ) (s n i : ℕ) (k : List ℕ) → after ≡ before ++ reply s n [] → nat_lt (length body) 21 ≡ false → k ≡ key_of body → place_in os.keys k ≡ Some i → i < length os.maps → eqb s 21 ≡ false
    → ((m : Map) → Answers m body (reply s n []) m) → Serves os body before after os
serves_refused os body before after s n i k e long j place inside t says =
    let m : Map = get_or os.maps i [] in
    let found : map_of (key_of body) os ≡ Some m = ap (λ x. map_of x os) (sym j) ∙ map_at_place os k i m place (slice_get-get_or os.maps i [] inside) in
    serves_by os os body before after s n t e (long_body os os body (reply s n []) long
    (subst (λ (o : Option Map). ServesBy o body os (reply s n []) os) (sym found) (m, says m, sym (with_map_same (key_of body) m os found))))

-- a refusal where the key is a tenant's, and that there is none where it is not
pub serves_at : (os : Tenancy) (body : List ℕ) (fault n : ℕ) (k : List ℕ) (s : ℕ) → nat_lt (length body) 21 ≡ false → n ≡ number_of body → k ≡ key_of body → (place_in os.keys k ≡ None → s ≡ 2)
    → ((i : ℕ) → place_in os.keys k ≡ Some i → (s ≡ fault) × (i < length os.maps)) → eqb fault 21 ≡ false → ((m : Map) → Answers m body (reply fault n []) m) → (before : List ℕ) → Serves os body before (before ++ reply s n []) os
serves_at os body fault n k s long m j none some t says before = by (place_in os.keys k) refl
  where
    by : (o : Option ℕ) → place_in os.keys k ≡ o → Serves os body before (before ++ reply s n []) os
    by None e = serves_none os body before _ n k (ap (λ x. before ++ reply x n []) (none e)) long m j e
    by (Some i) e = serves_refused os body before _ fault n i k (ap (λ x. before ++ reply x n []) (some i e).0) long j e (some i e).1 t says

pub answers_at : (m m' : Map) (body frame : List ℕ) (r : Reading) → r ≡ reading body → AnswersReading r m frame m' → Answers m body frame m'
answers_at m m' body frame r h a = subst (λ q. AnswersReading q m frame m') h a

answers_from : (m m' : Map) (body frame : List ℕ) (r : Reading) → r ≡ reading body → Answers m body frame m' → AnswersReading r m frame m'
answers_from m m' body frame r h a = subst (λ q. AnswersReading q m frame m') (sym h) a

-- a tenant's command
pub serves_command : (os : Tenancy) (body before after : List ℕ) (n i : ℕ) (k : List ℕ) (asked : Asked) (old new : Map) → Asks n k asked ≡ reading body → place_in os.keys k ≡ Some i → slice_get os.maps i ≡ Some old
    → Gives old asked n before after new → Serves os body before after (with_map os i new)
serves_command os body before after n i k asked old new r place here g =
    let s = shape_at body (Asks n k asked) r in
    let found : map_of (key_of body) os ≡ Some old = ap (λ x. map_of x os) (sym s.2) ∙ map_at_place os k i old place here in
    let put : (x : Map) → with_map_of (key_of body) x os ≡ with_map os i x = λ x. ap (λ y. with_map_of y x os) (sym s.2) ∙ ap (λ o. put_at o x os) place in
    (g.0, g.1, by (is_no_memory g.0) s.0 s.1 found put (with_map_at os i old here) g.2)
  where
    want : (frame : List ℕ) (mid : Tenancy) → nat_lt (length body) 21 ≡ false → map_of (key_of body) os ≡ Some old → MayWant asked n old → ServesBody os body frame mid → reading_wants (reading body) frame ≡ true
    want frame mid long found w v =
        let b : ServesBy (Some old) body os frame mid = subst (λ (q : Option Map). ServesBy q body os frame mid) found (at_false (is_short body) _ _ long v) in
        ap (λ q. reading_wants q frame) (sym r) ∙ w frame b.0 (answers_from old b.0 body frame (Asks n k asked) r b.1)

    by : (z : Bool) → nat_lt (length body) 21 ≡ false → n ≡ number_of body → map_of (key_of body) os ≡ Some old → ((x : Map) → with_map_of (key_of body) x os ≡ with_map os i x) → with_map os i old ≡ os
        → MatchBool z ((g.0 ≡ reply 21 n []) × (new ≡ old) × MayWant asked n old) (IsAnswer asked n old g.0 new)
        → MatchBool z ((g.0 ≡ reply 21 (number_of body) []) × (with_map os i new ≡ os) × BodyMayWant os body) (ServesBody os body g.0 (with_map os i new))
    by true long same found put stay h = (h.0 ∙ ap (λ k. reply 21 k []) same, ap (with_map os i) h.1 ∙ stay, λ frame mid v. want frame mid long found h.2 v)
    by false long same found put stay h = long_body os (with_map os i new) body g.0 long
        (subst (λ (q : Option Map). ServesBy q body os g.0 (with_map os i new)) (sym found) (new, answers_at old new body g.0 (Asks n k asked) r h, sym (put new)))

-- what a refusal leaves of a reply that was begun
pub taken_back : (before begun mid after frame : List ℕ) (s : ℕ) → s ≡ length before → take (length before) begun ≡ before → mid ≡ begun → after ≡ take s mid ++ frame → after ≡ before ++ frame
taken_back before begun mid after frame s l t u e = e ∙ ap (λ x. x ++ frame) (ap (take s) u ∙ ap (λ k. take k begun) l ∙ t)

-- ---- Queries

only_query_memory : (e : QueryFault) → eqb (query_status e) 21 ≡ true → e ≡ q.Memory
only_query_memory q.QueryTooLong h = absurd cc
only_query_memory q.NotWellFormed h = absurd cc
only_query_memory q.NotValid h = absurd cc
only_query_memory q.Memory h = refl

-- a query's text that is not too long
text_not_free : (t : List ℕ) (e : QueryFault) → RefusesQueryText t q.Memory → RefusesQueryText t e → is_free (query_status e) ≡ false
text_not_free t q.QueryTooLong short r = absurd (omega (arith, short, r))
text_not_free t q.NotWellFormed short r = refl
text_not_free t q.NotValid short r = refl
text_not_free t q.Memory short r = refl

-- the evaluation is not refused for what is missing, nor as a text is
abbrev pub IsOfQuery : Option StoreFault → Type 0
IsOfQuery None = Unit {0}
IsOfQuery (Some e) = is_free (status_of e) ≡ false

of_query : (tree : Segments) (spent size : ℕ) (ts : List Text) → IsOfQuery (query_fault tree spent size ts)
unfolding query_fault
of_query tree spent size [] = tt
of_query tree spent size (t ∷ ts) =
    by (nat_lt budget (spent + charge t.tree tree)) (nat_lt payload_limit (size + length (found_in tree t))) _ (of_query tree (spent + charge t.tree tree) (size + length (found_in tree t)) ts)
  where
    by : (x y : Bool) (others : Option StoreFault) → IsOfQuery others → IsOfQuery (cond x (Some f.Costly) (cond y (Some f.ReplyTooLarge) others))
    by true y others o = refl
    by false true others o = refl
    by false false others o = o

-- the fault that is not want of memory
pub fault_is : (o : Option StoreFault) (e : StoreFault) → IsFault o e → e ≢ f.NoMemory → o ≡ Some e
fault_is o f.TooLong h n = h
fault_is o f.NotUtf8 h n = h
fault_is o f.NotJson h n = h
fault_is o f.TooDeep h n = h
fault_is o f.NumberLimit h n = h
fault_is o f.LoneSurrogate h n = h
fault_is o f.DuplicateName h n = h
fault_is o f.TooManyCollections h n = h
fault_is o f.TooManyDocuments h n = h
fault_is o f.TooManyBytes h n = h
fault_is o f.NotFound h n = h
fault_is o f.ReplyTooLarge h n = h
fault_is o f.NoMemory h n = absurd (n refl)
fault_is o f.Costly h n = h
fault_is o f.Exists h n = h

hits_not_free : (c t : List ℕ) (m : Map) (s : ℕ) → RefusesHits c t m s → is_free s ≡ false
hits_not_free c t m s h =
    let r : RefusesQuery h.0 (documents_of c m) h.2.0 = h.2.1 in
    ap is_free h.2.3 ∙ subst IsOfQuery (fault_is (query_fault h.0 0 4 r.texts) h.2.0 r.first h.2.2) (of_query h.0 0 4 r.texts)

-- a query that is not refused for its length
pub query_may_want : (c t : List ℕ) (n : ℕ) (m : Map) → RefusesQueryText t q.Memory → MayWant (Query c t) n m
query_may_want c t n m short = may_want_by (Query c t) n m refl by
  where
    by : (s : ℕ) → Refuses (Query c t) m s → is_free s ≡ false
    by s (inl h) = ap is_free h.3 ∙ text_not_free t h.0 short h.1
    by s (inr h) = hits_not_free c t m s h

pub gives_query_fault : (m : Map) (c t : List ℕ) (n : ℕ) (before after : List ℕ) (e : QueryFault) → after ≡ before ++ reply (query_status e) n [] → RefusesQueryText t e → Gives m (Query c t) n before after m
gives_query_fault m c t n before after e a r = (
  reply (query_status e) n [],
  a,
  made (is_no_memory (reply (query_status e) n [])) _ _
      (λ z. let x = only_query_memory e (sym (no_memory_reply (query_status e) n []) ∙ z) in (ap (λ y. reply (query_status y) n []) x, refl, query_may_want c t n m (subst (λ y. RefusesQueryText t y) x r)))
      (λ z. inr (record { status = query_status e; refuses = inl (e, r, (λ x. false≢true (sym z ∙ no_memory_reply (query_status e) n [] ∙ ap (λ y. eqb (query_status y) 21) x)), refl); frame_is = refl; map_is = refl })),
)

-- a reply whose head was written over the place that was kept for it
pub begun_and_done : (before begun mid after payload : List ℕ) (n s : ℕ) → s ≡ length before → take (length before) begun ≡ before → length begun ≡ length before + 9 → mid ≡ begun ++ payload → after ≡ take s mid ++ reply 0 n (drop (s + 9) mid) → after ≡ before ++ reply 0 n payload
begun_and_done before begun mid after payload n s l t nine u e =
    let front : take s mid ≡ before = ap (take s) u ∙ take-append-le s begun payload (omega (arith, l, nine)) ∙ ap (λ k. take k begun) l ∙ t in
    let back : drop (s + 9) mid ≡ payload = ap (drop (s + 9)) u ∙ drop_at begun payload (s + 9) (omega (arith, l, nine)) in
    e ∙ ap (λ x. x ++ reply 0 n (drop (s + 9) mid)) front ∙ ap (λ x. before ++ reply 0 n x) back
