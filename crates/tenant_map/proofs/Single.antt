-- Each put has one answer.
use Rattle.std.proofs.Common.{◌≡◌, ◌≢◌, ◌⊎◌, inl, inr, ◌<◌, ℕ, List, [], ◌∷◌, Option, Some, None, refl, sym, ap, ◌∙◌, get_or, arith}
use Rattle.json_tape.specs.Verdict.{rank, IsRefused}
use Rattle.json_text.specs.declared.tape.TextFault.{TextFault}
use Rattle.json_text.specs.declared.tape.TextFault.TheVariants as verdict
use Rattle.tenant_map.specs.declared.faults.StoreFault.{StoreFault}
use Rattle.tenant_map.specs.declared.faults.StoreFault.TheVariants as faults
use Rattle.tenant_map.specs.Maps.{Map, put_text}
use Rattle.tenant_map.specs.Quotas.{quota_fault}
use Rattle.tenant_map.specs.Answers.{IsDocument, FailsVerdict, IsFree, AcceptsPut, RefusesPut, AcceptsPutNew, RefusesPutNew, of_text}
use Rattle.tenant_map.specs.Laws.{PutsAnswerOnce}

-- the refusal of a rank
abbrev of_rank : ℕ → TextFault
of_rank n = get_or (verdict.TooLong ∷ verdict.NotUtf8 ∷ verdict.NotJson ∷ verdict.TooDeep ∷ verdict.NumberLimit ∷ verdict.LoneSurrogate ∷ verdict.DuplicateName ∷ []) n verdict.Memory

of_rank-rank : (f : TextFault) → of_rank (rank f) ≡ f
of_rank-rank verdict.TooLong = refl
of_rank-rank verdict.NotUtf8 = refl
of_rank-rank verdict.NotJson = refl
of_rank-rank verdict.TooDeep = refl
of_rank-rank verdict.NumberLimit = refl
of_rank-rank verdict.LoneSurrogate = refl
of_rank-rank verdict.DuplicateName = refl
of_rank-rank verdict.Memory = refl

equal_ranks : (a b : ℕ) → (a < b → ⊥) → (b < a → ⊥) → a ≡ b
equal_ranks a b f g = omega arith

refused_once : (t : List ℕ) (f g : TextFault) → IsRefused t f → IsRefused t g → f ≡ g
refused_once t f g x y =
    let e : rank f ≡ rank g = equal_ranks (rank f) (rank g) (λ l. y.1 f l x.0) (λ l. x.1 g l y.0) in
    sym (of_rank-rank f) ∙ ap of_rank e ∙ of_rank-rank g

-- the text's verdict
IsVerdict : List ℕ → StoreFault → Type 0
IsVerdict t f = (v : TextFault) × IsRefused t v × (f ≡ of_text v)

verdict_of : (t : List ℕ) (f : StoreFault) → f ≢ faults.NoMemory → FailsVerdict t f → IsVerdict t f
unfolding IsVerdict
verdict_of t faults.TooLong n h = (verdict.TooLong, h, refl)
verdict_of t faults.NotUtf8 n h = (verdict.NotUtf8, h, refl)
verdict_of t faults.NotJson n h = (verdict.NotJson, h, refl)
verdict_of t faults.TooDeep n h = (verdict.TooDeep, h, refl)
verdict_of t faults.NumberLimit n h = (verdict.NumberLimit, h, refl)
verdict_of t faults.LoneSurrogate n h = (verdict.LoneSurrogate, h, refl)
verdict_of t faults.DuplicateName n h = (verdict.DuplicateName, h, refl)
verdict_of t faults.NoMemory n h = absurd (n refl)
verdict_of t f n h = absurd h

-- the text's verdict, or a quota
Cause : (c d t : List ℕ) → Map → StoreFault → Type 0
Cause c d t m f = IsVerdict t f ⊎ (IsDocument t × (quota_fault (put_text c d t m) ≡ Some f))

cause : (c d t : List ℕ) (m : Map) (f : StoreFault) → f ≢ faults.NoMemory → RefusesPut c d t m f → Cause c d t m f
unfolding Cause
cause c d t m faults.TooManyCollections n h = inr h
cause c d t m faults.TooManyDocuments n h = inr h
cause c d t m faults.TooManyBytes n h = inr h
cause c d t m f n h = inl (verdict_of t f n h)

-- the text's verdict, the document that is there, or a quota
NewCause : (c d t : List ℕ) → Map → StoreFault → Type 0
NewCause c d t m f = IsVerdict t f ⊎ ((IsDocument t × (IsFree c d m → ⊥) × (f ≡ faults.Exists)) ⊎ (IsFree c d m × (IsDocument t × (quota_fault (put_text c d t m) ≡ Some f))))

new_cause : (c d t : List ℕ) (m : Map) (f : StoreFault) → f ≢ faults.NoMemory → RefusesPutNew c d t m f → NewCause c d t m f
unfolding NewCause
new_cause c d t m faults.Exists n h = inr (inl (h.0, h.1, refl))
new_cause c d t m faults.TooManyCollections n h = inr (inr h)
new_cause c d t m faults.TooManyDocuments n h = inr (inr h)
new_cause c d t m faults.TooManyBytes n h = inr (inr h)
new_cause c d t m f n h = inl (verdict_of t f n h)

no_document : (t : List ℕ) (v : TextFault) → IsDocument t → IsRefused t v → ⊥
no_document t v (tree, a) r = a.1 v r.0

same_verdict : (t : List ℕ) (f g : StoreFault) → IsVerdict t f → IsVerdict t g → f ≡ g
unfolding IsVerdict
same_verdict t f g (v, r, e) (w, s, k) = e ∙ ap of_text (refused_once t v w r s) ∙ sym k

no_verdict : (t : List ℕ) (f : StoreFault) → IsDocument t → IsVerdict t f → ⊥
unfolding IsVerdict
no_verdict t f a (v, r, e) = no_document t v a r

same_quota : (o : Option StoreFault) (f g : StoreFault) → o ≡ Some f → o ≡ Some g → f ≡ g
same_quota o f g q p = let e : Some f ≡ Some g = sym q ∙ p in cc

same_cause : (c d t : List ℕ) (m : Map) (f g : StoreFault) → Cause c d t m f → Cause c d t m g → f ≡ g
unfolding Cause
same_cause c d t m f g (inl x) (inl y) = same_verdict t f g x y
same_cause c d t m f g (inl x) (inr (a, q)) = absurd (no_verdict t f a x)
same_cause c d t m f g (inr (a, q)) (inl y) = absurd (no_verdict t g a y)
same_cause c d t m f g (inr (a, q)) (inr (b, p)) = same_quota _ f g q p

same_new_cause : (c d t : List ℕ) (m : Map) (f g : StoreFault) → NewCause c d t m f → NewCause c d t m g → f ≡ g
unfolding NewCause
same_new_cause c d t m f g (inl x) (inl y) = same_verdict t f g x y
same_new_cause c d t m f g (inl x) (inr (inl (a, _, _))) = absurd (no_verdict t f a x)
same_new_cause c d t m f g (inl x) (inr (inr (_, (a, _)))) = absurd (no_verdict t f a x)
same_new_cause c d t m f g (inr (inl (a, _, _))) (inl y) = absurd (no_verdict t g a y)
same_new_cause c d t m f g (inr (inr (_, (a, _)))) (inl y) = absurd (no_verdict t g a y)
same_new_cause c d t m f g (inr (inl (_, _, e))) (inr (inl (_, _, k))) = e ∙ sym k
same_new_cause c d t m f g (inr (inl (_, there, _))) (inr (inr (free, _))) = absurd (there free)
same_new_cause c d t m f g (inr (inr (free, _))) (inr (inl (_, there, _))) = absurd (there free)
same_new_cause c d t m f g (inr (inr (_, (_, q)))) (inr (inr (_, (_, p)))) = same_quota _ f g q p

within_quota : (c d t : List ℕ) (m n : Map) (f : StoreFault) → AcceptsPut c d t m n → quota_fault (put_text c d t m) ≡ Some f → ⊥
within_quota c d t m n f a q = let e : None ≡ Some f = sym a.within ∙ q in absurd cc

accepts_without : (c d t : List ℕ) (m n : Map) (f : StoreFault) → AcceptsPut c d t m n → Cause c d t m f → ⊥
unfolding Cause
accepts_without c d t m n f a (inl x) = no_verdict t f a.document_is x
accepts_without c d t m n f a (inr (b, q)) = within_quota c d t m n f a q

accepts_new_without : (c d t : List ℕ) (m n : Map) (f : StoreFault) → AcceptsPutNew c d t m n → NewCause c d t m f → ⊥
unfolding NewCause
accepts_new_without c d t m n f a (inl x) = no_verdict t f a.put.document_is x
accepts_new_without c d t m n f a (inr (inl (_, there, _))) = there a.free
accepts_new_without c d t m n f a (inr (inr (_, (_, q)))) = within_quota c d t m n f a.put q

pub puts_answer_once : PutsAnswerOnce
puts_answer_once =
    record {
      fault = λ c d t m f g n k x y. same_cause c d t m f g (cause c d t m f n x) (cause c d t m g k y);
      either = λ c d t m n f k a x. accepts_without c d t m n f a (cause c d t m f k x);
      new_fault = λ c d t m f g n k x y. same_new_cause c d t m f g (new_cause c d t m f n x) (new_cause c d t m g k y);
      new_either = λ c d t m n f k a x. accepts_new_without c d t m n f a (new_cause c d t m f k x);
    }
