-- Why a put is refused.
use Rattle.std.proofs.Common.{◌≡◌, ◌⊎◌, inl, inr, ℕ, List, Bool, true, false, cond, Option, Some, None, is_some, Result, Ok, Err, IfErr, OnOk, refl, sym, ap, ◌∙◌, subst}
use Rattle.json_tape.specs.Tree.{Tree}
use Rattle.json_tape.specs.Verdict.{IsAccepted}
use Rattle.json_tape.specs.Answer.{Explains, NoneApplies}
use Rattle.json_text.specs.declared.tape.TextFault.{TextFault}
use Rattle.json_text.specs.declared.tape.TextFault.TheVariants as verdict
use Rattle.tenant_map.specs.declared.faults.StoreFault.{StoreFault}
use Rattle.tenant_map.specs.declared.faults.StoreFault.TheVariants as faults
use Rattle.tenant_map.specs.declared.usage.Usage.{Usage}
use Rattle.tenant_map.specs.Maps.{Map, put_text}
use Rattle.tenant_map.specs.Quotas.{quota_by, quota_fault, usage_of}
use Rattle.tenant_map.specs.Answers.{IsDocument, IsFree, FailsVerdict, FailsKeeping, AcceptsPut, RefusesPut, AcceptsPutNew, RefusesPutNew, of_text}

pub refused_text : (f : TextFault) (t : List ℕ) → Explains t f → FailsVerdict t (of_text f)
refused_text verdict.TooLong t h = h
refused_text verdict.NotUtf8 t h = h
refused_text verdict.NotJson t h = h
refused_text verdict.TooDeep t h = h
refused_text verdict.NumberLimit t h = h
refused_text verdict.LoneSurrogate t h = h
refused_text verdict.DuplicateName t h = h
refused_text verdict.Memory t h = h

-- a text's verdict refuses a put, and one of a new document
pub put_refused : (f : StoreFault) (c d t : List ℕ) (m : Map) → FailsVerdict t f → RefusesPut c d t m f
put_refused faults.TooManyCollections c d t m h = absurd h
put_refused faults.TooManyDocuments c d t m h = absurd h
put_refused faults.TooManyBytes c d t m h = absurd h
put_refused f c d t m h = h

pub put_new_refused : (f : StoreFault) (c d t : List ℕ) (m : Map) → FailsVerdict t f → RefusesPutNew c d t m f
put_new_refused faults.Exists c d t m h = absurd h
put_new_refused faults.TooManyCollections c d t m h = absurd h
put_new_refused faults.TooManyDocuments c d t m h = absurd h
put_new_refused faults.TooManyBytes c d t m h = absurd h
put_new_refused f c d t m h = h

pub none_applies : (t : List ℕ) (tree : Tree) → IsAccepted t tree → NoneApplies t 2
none_applies t tree a = λ f low h. a.1 f h

-- a usage's fault is a quota
IsQuota : StoreFault → Type 0
IsQuota f = (f ≡ faults.TooManyCollections) ⊎ ((f ≡ faults.TooManyDocuments) ⊎ (f ≡ faults.TooManyBytes))

quota_of : (f : StoreFault) (a b k : Bool) → cond a (Some faults.TooManyCollections) (cond b (Some faults.TooManyDocuments) (cond k (Some faults.TooManyBytes) None)) ≡ Some f → IsQuota f
unfolding IsQuota
quota_of f true b k h = inl cc
quota_of f false true k h = inr (inl cc)
quota_of f false false true h = inr (inr cc)
quota_of f false false false h = absurd cc

quota_is : (f : StoreFault) (m : Map) → quota_fault m ≡ Some f → IsQuota f
unfolding quota_by
quota_is f m h = quota_of f _ _ _ h

by_quota : (P : StoreFault → Type 0) (f : StoreFault) → IsQuota f → P faults.TooManyCollections → P faults.TooManyDocuments → P faults.TooManyBytes → P f
unfolding IsQuota
by_quota P f (inl e) a b k = subst P (sym e) a
by_quota P f (inr (inl e)) a b k = subst P (sym e) b
by_quota P f (inr (inr e)) a b k = subst P (sym e) k

-- a text that was read and is not kept
pub kept_refused : (c d t : List ℕ) (m : Map) (f : StoreFault) → IsDocument t → FailsKeeping c d t m f → RefusesPut c d t m f
kept_refused c d t m f (tree, a) (inl e) = subst (RefusesPut c d t m) (sym e) (none_applies t tree a)
kept_refused c d t m f doc (inr q) = by_quota (λ g. quota_fault (put_text c d t m) ≡ Some g → RefusesPut c d t m g) f (quota_is f _ q) (λ h. (doc, h)) (λ h. (doc, h)) (λ h. (doc, h)) q

pub new_kept_refused : (c d t : List ℕ) (m : Map) (f : StoreFault) → IsFree c d m → IsDocument t → FailsKeeping c d t m f → RefusesPutNew c d t m f
new_kept_refused c d t m f free (tree, a) (inl e) = subst (RefusesPutNew c d t m) (sym e) (none_applies t tree a)
new_kept_refused c d t m f free doc (inr q) = by_quota (λ g. quota_fault (put_text c d t m) ≡ Some g → RefusesPutNew c d t m g) f (quota_is f _ q) (λ h. (free, (doc, h))) (λ h. (free, (doc, h))) (λ h. (free, (doc, h))) q

-- a usage above a quota
pub quota_fails : (c d t : List ℕ) (m : Map) (f : StoreFault) (u : Usage) → u ≡ usage_of (put_text c d t m) → Some f ≡ quota_by u → FailsKeeping c d t m f
quota_fails c d t m f u h q = inr (sym (ap quota_by h) ∙ sym q)

pub no_memory_fails : (c d t : List ℕ) (m : Map) → FailsKeeping c d t m faults.NoMemory
no_memory_fails c d t m = inl refl

-- what is there or not
pub is_free : (o : Option (List ℕ)) → is_some o ≡ false → o ≡ None
is_free None e = refl
is_free (Some x) e = absurd cc

pub not_free : (o : Option (List ℕ)) → is_some o ≡ true → o ≡ None → ⊥
not_free None e n = absurd cc
not_free (Some x) e n = absurd cc

-- a refused put keeps the map, by a call's result and the text that was read
pub put_keeps : (c d read text : List ℕ) (m : Map) (r : Result (Unit {0}) StoreFault) → read ≡ text → IsDocument text → IfErr r (FailsKeeping c d read m) → IfErr r (RefusesPut c d text m)
put_keeps c d read text m (Ok x) e doc h = tt
put_keeps c d read text m (Err f) e doc h = kept_refused c d text m f doc (subst (λ t. FailsKeeping c d t m f) e h)

pub put_new_keeps : (c d read text : List ℕ) (m : Map) (r : Result (Unit {0}) StoreFault) → read ≡ text → IsFree c d m → IsDocument text → IfErr r (FailsKeeping c d read m) → IfErr r (RefusesPutNew c d text m)
put_new_keeps c d read text m (Ok x) e free doc h = tt
put_new_keeps c d read text m (Err f) e free doc h = new_kept_refused c d text m f free doc (subst (λ t. FailsKeeping c d t m f) e h)

pub put_new_accepts : (c d read text : List ℕ) (m n : Map) (r : Result (Unit {0}) StoreFault) → read ≡ text → IsFree c d m → OnOk r (AcceptsPut c d read m n) → OnOk r (AcceptsPutNew c d text m n)
put_new_accepts c d read text m n (Ok x) e free a = record { free = free; put = subst (λ t. AcceptsPut c d t m n) e a }
put_new_accepts c d read text m n (Err f) e free a = tt
