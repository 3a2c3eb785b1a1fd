-- The definitions give one answer.
use Rattle.std.proofs.Common.{◌≡◌, ◌≢◌, ◌⊎◌, ℕ, arith, Bool, true, false, List, [], ◌∷◌, sym, ap, ◌∙◌, subst, refl, Option, Some, None, inl, inr}
use Rattle.std.specs.Bool.{MatchBool}
use Rattle.std.proofs.lemmas.Bool.{false≢true}
use Rattle.path_grammar.specs.Tree.{Segments}
use Rattle.path_grammar.specs.Laws.{HaveOneTree}
use Rattle.path_types.specs.Validity.{is_valid}
use Rattle.path_types.specs.Verdict.{IsValidQuery, RefusesQueryText}
use Rattle.path_types.specs.declared.query_text.QueryFault.{QueryFault}
use Rattle.path_types.specs.declared.query_text.QueryFault.TheVariants as q
use Rattle.tenant_map.specs.declared.faults.StoreFault.{StoreFault}
use Rattle.tenant_map.specs.declared.faults.StoreFault.TheVariants as f
use Rattle.tenant_map.specs.Statuses.{status_of}
use Rattle.tenant_map.specs.Maps.{Map, documents_of}
use Rattle.tenant_map.specs.Answers.{RefusesPut, RefusesPutNew, missing}
use Rattle.tenant_map.specs.Laws.{PutsAnswerOnce}
use Rattle.tenant_map.specs.Tenancy.{Tenancy}
use Rattle.tenant_store.specs.Laws.{QueriesAnswerOnce}
use Rattle.tenant_store.specs.Payloads.{AnswersQuery, RefusesQuery}
use Rattle.wire_frames.specs.Requests.{Asked, Put, Get, Remove, ListNames, Query, DropCollection, Usage, PutNew, Reading, Short, BadCommand, BadFields, Asks, reading, key_of}
use Rattle.wire_frames.specs.Replies.{reply}
use Rattle.request_replies.specs.Answers.{Does, Refuses, Finds, RefusesText, RefusesHits, IsMissing, query_status, HasStatus, IsAnswer, AnswersReading, Alone}
use Rattle.request_replies.specs.Tenants.{BodiesAreServedOnce, map_of, with_map_of, ServesBy, is_short, short_number}

-- the laws of the store and of the grammar: each put and each query has one answer, and a query's text one tree
pub record OneAnswer : Type 0 where
  pub puts : PutsAnswerOnce
  pub hits : QueriesAnswerOnce
  pub queries : HaveOneTree

-- ---- Queries

query_once : (w : OneAnswer) (t : List ℕ) (x y : Segments) → IsValidQuery t x → IsValidQuery t y → x ≡ y
query_once w t x y a b = w.queries t x y a.spelled b.spelled

fault_once : (d e : StoreFault) (o : Option StoreFault) → o ≡ Some d → o ≡ Some e → d ≡ e
fault_once d e o x y = let g : Some d ≡ Some e = sym x ∙ y in cc

-- a valid query is not refused for its text
not_valid_and : (w : OneAnswer) (t : List ℕ) (tree : Segments) (e : QueryFault) {A : Type 0} → e ≢ q.Memory → IsValidQuery t tree → RefusesQueryText t e → A
not_valid_and w t tree q.QueryTooLong n v r = let s = v.short in absurd (omega (arith, s, r))
not_valid_and w t tree q.NotWellFormed n v r = absurd (r.1 tree v.spelled)
not_valid_and w t tree q.NotValid n v r =
    let same : tree ≡ r.1.0 = w.queries t tree r.1.0 v.spelled r.1.1 in
    absurd (false≢true (sym r.1.2 ∙ ap is_valid (sym same) ∙ v.valid))
not_valid_and w t tree q.Memory n v r = absurd (n refl)

text_once : (w : OneAnswer) (t : List ℕ) (d e : QueryFault) → d ≢ q.Memory → e ≢ q.Memory → RefusesQueryText t d → RefusesQueryText t e → d ≡ e
text_once w t q.QueryTooLong q.QueryTooLong m n a b = refl
text_once w t q.QueryTooLong q.NotWellFormed m n a b = let l = b.0 in absurd (omega (arith, a, l))
text_once w t q.QueryTooLong q.NotValid m n a b = let l = b.0 in absurd (omega (arith, a, l))
text_once w t q.NotWellFormed q.QueryTooLong m n a b = let l = a.0 in absurd (omega (arith, b, l))
text_once w t q.NotWellFormed q.NotWellFormed m n a b = refl
text_once w t q.NotWellFormed q.NotValid m n a b = absurd (a.1 b.1.0 b.1.1)
text_once w t q.NotValid q.QueryTooLong m n a b = let l = a.0 in absurd (omega (arith, b, l))
text_once w t q.NotValid q.NotWellFormed m n a b = absurd (b.1 a.1.0 a.1.1)
text_once w t q.NotValid q.NotValid m n a b = refl
text_once w t q.Memory e m n a b = absurd (m refl)
text_once w t d q.Memory m n a b = absurd (n refl)

-- ---- Commands

does_once : (w : OneAnswer) (asked : Asked) (m : Map) (p q : List ℕ) (a b : Map) → Does asked m p a → Does asked m q b → (p ≡ q) × (a ≡ b)
does_once w (Put c d t) m p q a b x y = (x.1 ∙ sym y.1, x.0.put ∙ sym y.0.put)
does_once w (Get c d) m p q a b x y = let g : Some p ≡ Some q = sym x.0 ∙ y.0 in (cc, x.1 ∙ sym y.1)
does_once w (Remove c d) m p q a b x y = (x.1 ∙ sym y.1, x.2 ∙ sym y.2)
does_once w (ListNames c) m p q a b x y = (x.0 ∙ sym y.0, x.1 ∙ sym y.1)
does_once w (Query c t) m p q a b x y =
    let same : y.0.0 ≡ x.0.0 = query_once w t y.0.0 x.0.0 y.0.1 x.0.1 in
    (w.hits.appended x.0.0 (documents_of c m) [] p q x.0.2 (subst (λ s. AnswersQuery s (documents_of c m) [] q) same y.0.2), x.1 ∙ sym y.1)
does_once w (DropCollection c) m p q a b x y = (x.1 ∙ sym y.1, x.2 ∙ sym y.2)
does_once w Usage m p q a b x y = (x.0 ∙ sym y.0, x.1 ∙ sym y.1)
does_once w (PutNew c d t) m p q a b x y = (x.1 ∙ sym y.1, x.0.put.put ∙ sym y.0.put.put)

status_once : (refused : StoreFault → Type 0) (s t : ℕ) → ((d e : StoreFault) → d ≢ f.NoMemory → e ≢ f.NoMemory → refused d → refused e → d ≡ e) → HasStatus refused s → HasStatus refused t → s ≡ t
status_once refused s t once x y = x.3 ∙ ap status_of (once x.0 y.0 x.2 y.2 x.1 y.1) ∙ sym y.3

missing_once : {X : Type 0} (o : Option X) (s t : ℕ) → HasStatus (IsMissing o) s → HasStatus (IsMissing o) t → s ≡ t
missing_once o s t x y = status_once (IsMissing o) s t (λ d e m n a b. fault_once d e (missing o) a b) x y

query_refused_once : (w : OneAnswer) (c t : List ℕ) (m : Map) (a b : ℕ) → RefusesText t a ⊎ RefusesHits c t m a → RefusesText t b ⊎ RefusesHits c t m b → a ≡ b
query_refused_once w c t m a b (inl x) (inl y) = x.3 ∙ ap query_status (text_once w t x.0 y.0 x.2 y.2 x.1 y.1) ∙ sym y.3
query_refused_once w c t m a b (inl x) (inr y) = not_valid_and w t y.0 x.0 x.2 y.1 x.1
query_refused_once w c t m a b (inr x) (inl y) = not_valid_and w t x.0 y.0 y.2 x.1 y.1
query_refused_once w c t m a b (inr x) (inr y) =
    let same : y.0 ≡ x.0 = query_once w t y.0 x.0 y.1 x.1 in
    status_once (RefusesQuery x.0 (documents_of c m)) a b (w.hits.fault x.0 (documents_of c m)) x.2 (subst (λ s. HasStatus (RefusesQuery s (documents_of c m)) b) same y.2)

refuses_once : (w : OneAnswer) (asked : Asked) (m : Map) (a b : ℕ) → Refuses asked m a → Refuses asked m b → a ≡ b
refuses_once w (Put c d t) m a b x y = status_once (RefusesPut c d t m) a b (w.puts.fault c d t m) x y
refuses_once w (Get c d) m a b x y = missing_once _ a b x y
refuses_once w (Remove c d) m a b x y = missing_once _ a b x y
refuses_once w (ListNames c) m a b x y = absurd x
refuses_once w (Query c t) m a b x y = query_refused_once w c t m a b x y
refuses_once w (DropCollection c) m a b x y = missing_once _ a b x y
refuses_once w Usage m a b x y = absurd x
refuses_once w (PutNew c d t) m a b x y = status_once (RefusesPutNew c d t m) a b (w.puts.new_fault c d t m) x y

not_query : (w : OneAnswer) (c t : List ℕ) (m : Map) (p : List ℕ) (s : ℕ) {A : Type 0} → Finds c t m p → RefusesText t s ⊎ RefusesHits c t m s → A
not_query w c t m p s x (inl y) = not_valid_and w t x.0 y.0 y.2 x.1 y.1
not_query w c t m p s x (inr y) =
    let same : y.0 ≡ x.0 = query_once w t y.0 x.0 y.1 x.1 in
    absurd (w.hits.either x.0 (documents_of c m) [] p y.2.0 y.2.2 x.2 (subst (λ z. RefusesQuery z (documents_of c m) y.2.0) same y.2.1))

not_missing_here : {X : Type 0} (o : Option X) (s : ℕ) {A : Type 0} → missing o ≡ None → HasStatus (IsMissing o) s → A
not_missing_here o s e x = let g : None ≡ Some x.0 = sym e ∙ x.1 in absurd (cc)

not_both : (w : OneAnswer) (asked : Asked) (m : Map) (p : List ℕ) (a : Map) (s : ℕ) {A : Type 0} → Does asked m p a → Refuses asked m s → A
not_both w (Put c d t) m p a s x y = absurd (w.puts.either c d t m a y.0 y.2 x.0 y.1)
not_both w (Get c d) m p a s x y = not_missing_here _ s (ap missing x.0) y
not_both w (Remove c d) m p a s x y = not_missing_here _ s x.0 y
not_both w (ListNames c) m p a s x y = absurd y
not_both w (Query c t) m p a s x y = not_query w c t m p s x.0 y
not_both w (DropCollection c) m p a s x y = not_missing_here _ s x.0 y
not_both w Usage m p a s x y = absurd y
not_both w (PutNew c d t) m p a s x y = absurd (w.puts.new_either c d t m a y.0 y.2 x.0 y.1)

answer_once : (w : OneAnswer) (asked : Asked) (n : ℕ) (m : Map) (f g : List ℕ) (a b : Map) → IsAnswer asked n m f a → IsAnswer asked n m g b → (f ≡ g) × (a ≡ b)
answer_once w asked n m f g a b (inl x) (inl y) = let e = does_once w asked m x.payload y.payload a b x.does y.does in (x.frame_is ∙ ap (reply 0 n) e.0 ∙ sym y.frame_is, e.1)
answer_once w asked n m f g a b (inl x) (inr y) = not_both w asked m x.payload a y.status x.does y.refuses
answer_once w asked n m f g a b (inr x) (inl y) = not_both w asked m y.payload b x.status y.does x.refuses
answer_once w asked n m f g a b (inr x) (inr y) = (x.frame_is ∙ ap (λ s. reply s n []) (refuses_once w asked m x.status y.status x.refuses y.refuses) ∙ sym y.frame_is, x.map_is ∙ sym y.map_is)

reading_once : (w : OneAnswer) (r : Reading) (m : Map) (f g : List ℕ) (a b : Map) → AnswersReading r m f a → AnswersReading r m g b → (f ≡ g) × (a ≡ b)
reading_once w (Short n) m f g a b x y = (x.0 ∙ sym y.0, x.1 ∙ sym y.1)
reading_once w (BadCommand n k) m f g a b x y = (x.0 ∙ sym y.0, x.1 ∙ sym y.1)
reading_once w (BadFields n k) m f g a b x y = (x.0 ∙ sym y.0, x.1 ∙ sym y.1)
reading_once w (Asks n k asked) m f g a b x y = answer_once w asked n m f g a b x y

pub alone_once : (w : OneAnswer) (m : Map) (bodies first second : List (List ℕ)) → Alone m bodies first → Alone m bodies second → first ≡ second
alone_once w m [] [] [] x y = refl
alone_once w m [] [] (g ∷ gs) x y = absurd y
alone_once w m [] (f ∷ fs) gs x y = absurd x
alone_once w m (b ∷ bs) [] gs x y = absurd x
alone_once w m (b ∷ bs) (f ∷ fs) [] x y = absurd y
alone_once w m (b ∷ bs) (f ∷ fs) (g ∷ gs) x y =
    let e = reading_once w (reading b) m f g x.0 y.0 x.1 y.1 in
    ap (λ h. h ∷ fs) e.0 ∙ ap (λ hs. g ∷ hs) (alone_once w x.0 bs fs gs x.2 (subst (λ n. Alone n bs gs) (sym e.1) y.2))

by_once : (w : OneAnswer) (o : Option Map) (b : List ℕ) (os : Tenancy) (f g : List ℕ) (a c : Tenancy) → ServesBy o b os f a → ServesBy o b os g c → (f ≡ g) × (a ≡ c)
by_once w None b os f g a c x y = (x.0 ∙ sym y.0, x.1 ∙ sym y.1)
by_once w (Some m) b os f g a c x y = let e = reading_once w (reading b) m f g x.0 y.0 x.1 y.1 in (e.0, x.2 ∙ ap (λ n. with_map_of (key_of b) n os) e.1 ∙ sym y.2)

body_by : (w : OneAnswer) (z : Bool) (b : List ℕ) (os : Tenancy) (f g : List ℕ) (a c : Tenancy)
    → MatchBool z ((f ≡ reply 1 (short_number b) []) × (a ≡ os)) (ServesBy (map_of (key_of b) os) b os f a) → MatchBool z ((g ≡ reply 1 (short_number b) []) × (c ≡ os)) (ServesBy (map_of (key_of b) os) b os g c) → (f ≡ g) × (a ≡ c)
body_by w true b os f g a c x y = (x.0 ∙ sym y.0, x.1 ∙ sym y.1)
body_by w false b os f g a c x y = by_once w (map_of (key_of b) os) b os f g a c x y

pub served_once : OneAnswer → BodiesAreServedOnce
served_once w t body f g a b x y = body_by w (is_short body) body t f g a b x y
