-- Each request has an answer.
use Rattle.std.proofs.Common.{◌≡◌, ◌≢◌, ◌⊎◌, inl, inr, ℕ, ◌+◌, List, [], ◌∷◌, length, Bool, true, false, cond, nat_lt, Option, Some, None, refl, sym, ap, ◌∙◌, subst}
use Rattle.std.specs.Map.{lookup}
use Rattle.json_tape.specs.Verdict.{IsRefused}
use Rattle.json_text.specs.declared.tape.TextFault.{TextFault}
use Rattle.json_text.specs.declared.tape.TextFault.TheVariants as verdict
use Rattle.path_grammar.specs.Tree.{Segments}
use Rattle.tape_select.specs.Budget.{budget}
use Rattle.tape_select.specs.Charge.{charge}
use Rattle.tenant_map.specs.declared.faults.StoreFault.{StoreFault}
use Rattle.tenant_map.specs.declared.faults.StoreFault.TheVariants as store
use Rattle.tenant_map.specs.declared.usage.Usage.{Usage as Held}
use Rattle.tenant_map.specs.Statuses.{status_of}
use Rattle.tenant_map.specs.Keyed.{at}
use Rattle.tenant_map.specs.Maps.{Documents, Map, put_text, text_at, documents_of, remove_text, drop_texts}
use Rattle.tenant_map.specs.Quotas.{quota_by, quota_fault, collection_quota, document_quota, byte_quota}
use Rattle.tenant_map.specs.Answers.{IsDocument, RefusesPut, RefusesPutNew, IsFree, missing}
use Rattle.store_names.specs.Lengths.{payload_limit}
use Rattle.tenant_map.specs.Listings.{listing}
use Rattle.tenant_store.specs.Payloads.{Text, AreTextsOf, query_fault, payload, found_in}
use Rattle.wire_frames.specs.Requests.{Asked, Put, Get, Remove, ListNames, Query, DropCollection, Usage, PutNew, Reading, Short, BadCommand, BadFields, Asks, reading}
use Rattle.wire_frames.specs.Replies.{reply}
use Rattle.request_replies.specs.Answers.{usage_payload, query_status, Does, Refuses, IsAnswer, AnswersReading}
use Rattle.answer_law.specs.Law.{IsThere, AreDocuments, HoldsDocuments, HasAnswer, HasReplies}
use Rattle.answer_law.proofs.There.{here, then'}
use Rattle.answer_law.proofs.Verdicts.{HasRefusal, HasQuery, HasQueryRefusal, text_judged, query_judged}
use Rattle.answer_law.proofs.Kept.{documents_kept, put_kept, remove_kept, drop_kept}

-- a reply to what is asked
pub record HasReply (asked : Asked) (number : ℕ) (m : Map) : Type 0 where
  pub frame : List ℕ
  pub after : Map
  pub answer : IsAnswer asked number m frame after
  pub holds : HoldsDocuments after

done : (asked : Asked) (number : ℕ) (m after : Map) (payload : List ℕ) → Does asked m payload after → HoldsDocuments after → HasReply asked number m
done asked number m after payload does holds = record { frame = reply 0 number payload; after = after; answer = inl (record { payload = payload; does = does; frame_is = refl }); holds = holds }

refused : (asked : Asked) (number : ℕ) (m : Map) (status : ℕ) → Refuses asked m status → HoldsDocuments m → HasReply asked number m
refused asked number m status refuses holds = record { frame = reply status number []; after = m; answer = inr (record { status = status; refuses = refuses; frame_is = refl; map_is = refl }); holds = holds }

-- ---- what is missing

not_found : store.NotFound ≢ store.NoMemory
not_found e = cc

-- ---- puts

-- a fault that refuses, and is not want of memory
Fails : (StoreFault → Type 0) → Type 0
Fails refuses = (fault : StoreFault) × refuses fault × (fault ≢ store.NoMemory)

verdict_fails : (c d text : List ℕ) (m : Map) (f : TextFault) → f ≢ verdict.Memory → IsRefused text f → Fails (RefusesPut c d text m)
unfolding Fails
verdict_fails c d text m verdict.TooLong n r = (store.TooLong, r, λ e. cc)
verdict_fails c d text m verdict.NotUtf8 n r = (store.NotUtf8, r, λ e. cc)
verdict_fails c d text m verdict.NotJson n r = (store.NotJson, r, λ e. cc)
verdict_fails c d text m verdict.TooDeep n r = (store.TooDeep, r, λ e. cc)
verdict_fails c d text m verdict.NumberLimit n r = (store.NumberLimit, r, λ e. cc)
verdict_fails c d text m verdict.LoneSurrogate n r = (store.LoneSurrogate, r, λ e. cc)
verdict_fails c d text m verdict.DuplicateName n r = (store.DuplicateName, r, λ e. cc)
verdict_fails c d text m verdict.Memory n r = absurd (n refl)

verdict_fails_new : (c d text : List ℕ) (m : Map) (f : TextFault) → f ≢ verdict.Memory → IsRefused text f → Fails (RefusesPutNew c d text m)
unfolding Fails
verdict_fails_new c d text m verdict.TooLong n r = (store.TooLong, r, λ e. cc)
verdict_fails_new c d text m verdict.NotUtf8 n r = (store.NotUtf8, r, λ e. cc)
verdict_fails_new c d text m verdict.NotJson n r = (store.NotJson, r, λ e. cc)
verdict_fails_new c d text m verdict.TooDeep n r = (store.TooDeep, r, λ e. cc)
verdict_fails_new c d text m verdict.NumberLimit n r = (store.NumberLimit, r, λ e. cc)
verdict_fails_new c d text m verdict.LoneSurrogate n r = (store.LoneSurrogate, r, λ e. cc)
verdict_fails_new c d text m verdict.DuplicateName n r = (store.DuplicateName, r, λ e. cc)
verdict_fails_new c d text m verdict.Memory n r = absurd (n refl)

-- the quotas hold, or one does not
data Quota (o : Option StoreFault) : Type 0 where
  Holds : o ≡ None → Quota o
  Collections : o ≡ Some store.TooManyCollections → Quota o
  Documents' : o ≡ Some store.TooManyDocuments → Quota o
  Bytes : o ≡ Some store.TooManyBytes → Quota o

quotas : (u : Held) → Quota (quota_by u)
unfolding quota_by
quotas u = by (nat_lt collection_quota u.collections) (nat_lt document_quota u.documents) (nat_lt byte_quota u.bytes)
  where
    by : (x y z : Bool) → Quota (cond x (Some store.TooManyCollections) (cond y (Some store.TooManyDocuments) (cond z (Some store.TooManyBytes) None)))
    by true y z = Collections refl
    by false true z = Documents' refl
    by false false true = Bytes refl
    by false false false = Holds refl

put_answered : (number : ℕ) (c d text : List ℕ) (m : Map) → HoldsDocuments m → IsThere (HasReply (Put c d text) number m)
unfolding Fails
put_answered number c d text m a = then' (text_judged text) (λ v. here (by v))
  where
    with_status : Fails (RefusesPut c d text m) → HasReply (Put c d text) number m
    with_status (f, r, n) = refused (Put c d text) number m (status_of f) (f, r, n, refl) a

    kept : IsDocument text → Quota (quota_fault (put_text c d text m)) → HasReply (Put c d text) number m
    kept is (Holds e) = done (Put c d text) number m (put_text c d text m) [] (record { document_is = is; within = e; put = refl }, refl) (put_kept c d text m is a)
    kept is (Collections e) = refused (Put c d text) number m _ (store.TooManyCollections, (is, e), (λ x. cc), refl) a
    kept is (Documents' e) = refused (Put c d text) number m _ (store.TooManyDocuments, (is, e), (λ x. cc), refl) a
    kept is (Bytes e) = refused (Put c d text) number m _ (store.TooManyBytes, (is, e), (λ x. cc), refl) a

    by : IsDocument text ⊎ HasRefusal text → HasReply (Put c d text) number m
    by (inl is) = kept is (quotas _)
    by (inr r) = with_status (verdict_fails c d text m r.fault r.named r.refused)

put_new_answered : (number : ℕ) (c d text : List ℕ) (m : Map) → HoldsDocuments m → IsThere (HasReply (PutNew c d text) number m)
unfolding Fails
put_new_answered number c d text m a = then' (text_judged text) (λ v. here (by v))
  where
    with_status : Fails (RefusesPutNew c d text m) → HasReply (PutNew c d text) number m
    with_status (f, r, n) = refused (PutNew c d text) number m (status_of f) (f, r, n, refl) a

    kept : IsDocument text → IsFree c d m → Quota (quota_fault (put_text c d text m)) → HasReply (PutNew c d text) number m
    kept is free (Holds e) = done (PutNew c d text) number m (put_text c d text m) [] (record { free = free; put = record { document_is = is; within = e; put = refl } }, refl) (put_kept c d text m is a)
    kept is free (Collections e) = refused (PutNew c d text) number m _ (store.TooManyCollections, (free, (is, e)), (λ x. cc), refl) a
    kept is free (Documents' e) = refused (PutNew c d text) number m _ (store.TooManyDocuments, (free, (is, e)), (λ x. cc), refl) a
    kept is free (Bytes e) = refused (PutNew c d text) number m _ (store.TooManyBytes, (free, (is, e)), (λ x. cc), refl) a

    place : IsDocument text → (o : Option (List ℕ)) → text_at c d m ≡ o → HasReply (PutNew c d text) number m
    place is None e = kept is e (quotas _)
    place is (Some t) e = refused (PutNew c d text) number m _ (store.Exists, (is, λ free. let bad : None ≡ Some t = sym free ∙ e in absurd (cc)), (λ x. cc), refl) a

    by : IsDocument text ⊎ HasRefusal text → HasReply (PutNew c d text) number m
    by (inl is) = place is (text_at c d m) refl
    by (inr r) = with_status (verdict_fails_new c d text m r.fault r.named r.refused)

-- ---- queries

pub record AreRead (ds : Documents) : Type 0 where
  pub texts : List Text
  pub read : AreTextsOf ds texts

all_read : (ds : Documents) → AreDocuments ds → AreRead ds
all_read [] a = record { texts = []; read = tt }
all_read (d ∷ ds) a =
    let others = all_read ds a.1 in
    record { texts = record { name = d.0; tree = a.0.0 } ∷ others.texts; read = ((refl, a.0.1), others.read) }

-- what may refuse the hits
data Verdict (o : Option StoreFault) : Type 0 where
  Within : o ≡ None → Verdict o
  Over : o ≡ Some store.Costly → Verdict o
  Large : o ≡ Some store.ReplyTooLarge → Verdict o

hits_judged : (q : Segments) (spent size : ℕ) (ts : List Text) → Verdict (query_fault q spent size ts)
unfolding query_fault
hits_judged q spent size [] = Within refl
hits_judged q spent size (t ∷ ts) = by (nat_lt budget (spent + charge t.tree q)) (nat_lt payload_limit (size + length (found_in q t))) (hits_judged q (spent + charge t.tree q) (size + length (found_in q t)) ts)
  where
    by : (x y : Bool) → Verdict (query_fault q (spent + charge t.tree q) (size + length (found_in q t)) ts)
        → Verdict (cond x (Some store.Costly) (cond y (Some store.ReplyTooLarge) (query_fault q (spent + charge t.tree q) (size + length (found_in q t)) ts)))
    by true y v = Over refl
    by false true v = Large refl
    by false false v = v

query_answered : (number : ℕ) (c text : List ℕ) (m : Map) → HoldsDocuments m → IsThere (HasReply (Query c text) number m)
query_answered number c text m a = then' (query_judged text) (λ v. here (by v))
  where
    ds : Documents
    ds = documents_of c m

    hits : (q : HasQuery text) (r : AreRead (documents_of c m)) → Verdict (query_fault q.tree 0 4 r.texts) → HasReply (Query c text) number m
    hits q r (Within e) = done (Query c text) number m m (payload q.tree r.texts) ((q.tree, q.valid, record { texts = r.texts; read = r.read; no_fault = e; appended = refl }), refl) a
    hits q r (Over e) = refused (Query c text) number m _ (inr (q.tree, q.valid, (store.Costly, record { texts = r.texts; read = r.read; first = e }, (λ x. cc), refl))) a
    hits q r (Large e) = refused (Query c text) number m _ (inr (q.tree, q.valid, (store.ReplyTooLarge, record { texts = r.texts; read = r.read; first = e }, (λ x. cc), refl))) a

    by : HasQuery text ⊎ HasQueryRefusal text → HasReply (Query c text) number m
    by (inl q) = let r = all_read (documents_of c m) (documents_kept c m a) in hits q r (hits_judged q.tree 0 4 r.texts)
    by (inr r) = refused (Query c text) number m (query_status r.fault) (inl (r.fault, r.refused, r.named, refl)) a

-- ---- all commands

get_answered : (number : ℕ) (c d : List ℕ) (m : Map) → HoldsDocuments m → HasReply (Get c d) number m
get_answered number c d m a = by (text_at c d m) refl
  where
    by : (o : Option (List ℕ)) → text_at c d m ≡ o → HasReply (Get c d) number m
    by None e = refused (Get c d) number m _ (store.NotFound, ap missing e, not_found, refl) a
    by (Some text) e = done (Get c d) number m m text (e, refl) a

remove_answered : (number : ℕ) (c d : List ℕ) (m : Map) → HoldsDocuments m → HasReply (Remove c d) number m
remove_answered number c d m a = by (text_at c d m) refl
  where
    by : (o : Option (List ℕ)) → text_at c d m ≡ o → HasReply (Remove c d) number m
    by None e = refused (Remove c d) number m _ (store.NotFound, ap missing e, not_found, refl) a
    by (Some text) e = done (Remove c d) number m (remove_text c d m) [] (ap missing e, refl, refl) (remove_kept c d m a)

drop_answered : (number : ℕ) (c : List ℕ) (m : Map) → HoldsDocuments m → HasReply (DropCollection c) number m
drop_answered number c m a = by (lookup (at c) m) refl
  where
    by : (o : Option Documents) → lookup (at c) m ≡ o → HasReply (DropCollection c) number m
    by None e = refused (DropCollection c) number m _ (store.NotFound, ap missing e, not_found, refl) a
    by (Some ds) e = done (DropCollection c) number m (drop_texts c m) [] (ap missing e, refl, refl) (drop_kept c m a)

asked_answered : (asked : Asked) (number : ℕ) (m : Map) → HoldsDocuments m → IsThere (HasReply asked number m)
asked_answered (Put c d text) number m a = put_answered number c d text m a
asked_answered (Get c d) number m a = here (get_answered number c d m a)
asked_answered (Remove c d) number m a = here (remove_answered number c d m a)
asked_answered (ListNames c) number m a = here (done (ListNames c) number m m (listing (documents_of c m)) (refl, refl) a)
asked_answered (Query c text) number m a = query_answered number c text m a
asked_answered (DropCollection c) number m a = here (drop_answered number c m a)
asked_answered Usage number m a = here (done Usage number m m (usage_payload m) (refl, refl) a)
asked_answered (PutNew c d text) number m a = put_new_answered number c d text m a

pub body_answered : (m : Map) (body : List ℕ) → HoldsDocuments m → IsThere (HasAnswer m body)
body_answered m body a = by (reading body) refl
  where
    by : (r : Reading) → reading body ≡ r → IsThere (HasAnswer m body)
    by (Short number) e = here (record { frame = reply 1 number []; after = m; answers = subst (λ x. AnswersReading x m (reply 1 number []) m) (sym e) (refl, refl); holds = a })
    by (BadCommand number key) e = here (record { frame = reply 3 number []; after = m; answers = subst (λ x. AnswersReading x m (reply 3 number []) m) (sym e) (refl, refl); holds = a })
    by (BadFields number key) e = here (record { frame = reply 4 number []; after = m; answers = subst (λ x. AnswersReading x m (reply 4 number []) m) (sym e) (refl, refl); holds = a })
    by (Asks number key asked) e = then' (asked_answered asked number m a) (λ r. here (record { frame = r.frame; after = r.after; answers = subst (λ x. AnswersReading x m r.frame r.after) (sym e) r.answer; holds = r.holds }))

pub list_answered : (bodies : List (List ℕ)) (m : Map) → HoldsDocuments m → IsThere (HasReplies m bodies)
list_answered [] m a = here ([], tt)
list_answered (body ∷ bodies) m a =
    then' (body_answered m body a) (λ r. then' (list_answered bodies r.after r.holds) (λ others. here (r.frame ∷ others.0, (r.after, r.answers, others.1))))
