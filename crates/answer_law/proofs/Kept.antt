-- Each command leaves a map of accepted texts.
use Rattle.std.proofs.Common.{◌≡◌, ℕ, List, [], ◌∷◌, Bool, true, false, cond, Option, Some, None, refl, subst, Ordering}
use Rattle.std.specs.Option.{unwrap_or}
use Rattle.std.specs.List.{AllByRecursion}
use Rattle.std.specs.Ordering.{match_ordering}
use Rattle.std.specs.declared.cmp.Ordering.TheVariants.{Less, Equal, Greater}
use Rattle.std.specs.Map.{lookup, remove_entry, set_value}
use Rattle.std.specs.BTreeMap.{insert_entry}
use Rattle.tenant_map.specs.Answers.{IsDocument}
use Rattle.tenant_map.specs.Keyed.{at, bytes_cmp, upsert, upsert_by}
use Rattle.tenant_map.specs.Maps.{Documents, Map, documents_of, put_text, keep, remove_by, remove_text, drop_texts}
use Rattle.answer_law.specs.Law.{AreDocuments, HoldsDocuments}

abbrev Each : {X : Type 0} → (X → Type 0) → List (List ℕ × X) → Type 0
Each P es = AllByRecursion (λ e. P e.1) es

each_set : {X : Type 0} (P : X → Type 0) (test : List ℕ → Bool) (v : X) (es : List (List ℕ × X)) → P v → Each P es → Each P (set_value test es v)
each_set P test v [] p a = a
each_set {X} P test v (e ∷ es) p a = elim (test e.0) as (λ b. Each P (cond b ((e.0, v) ∷ es) (e ∷ set_value test es v))) [ true ↦ (p, a.1) | false ↦ (a.0, each_set P test v es p a.1) ]

each_inserted : {X : Type 0} (P : X → Type 0) (k : List ℕ) (v : X) (es : List (List ℕ × X)) → P v → Each P es → Each P (insert_entry bytes_cmp es k v)
each_inserted P k v [] p a = (p, tt)
each_inserted {X} P k v (e ∷ es) p a = by (each_inserted P k v es p a.1) (bytes_cmp k e.0)
  where
    by : Each P (insert_entry bytes_cmp es k v) → (o : Ordering) → Each P (match_ordering o ((k, v) ∷ e ∷ es) ((e.0, v) ∷ es) (e ∷ insert_entry bytes_cmp es k v))
    by others Less = (p, a)
    by others Equal = (p, a.1)
    by others Greater = (a.0, others)

each_upserted : {X : Type 0} (P : X → Type 0) (k : List ℕ) (v : X) (es : List (List ℕ × X)) → P v → Each P es → Each P (upsert k v es)
each_upserted {X} P k v es p a = by (lookup (at k) es)
  where
    by : (o : Option X) → Each P (upsert_by o k v es)
    by None = each_inserted P k v es p a
    by (Some old) = each_set P (at k) v es p a

each_removed : {X : Type 0} (P : X → Type 0) (test : List ℕ → Bool) (es : List (List ℕ × X)) → Each P es → Each P (remove_entry test es)
each_removed P test [] a = a
each_removed P test (e ∷ es) a = elim (test e.0) as (λ b. Each P (cond b es (e ∷ remove_entry test es))) [ true ↦ a.1 | false ↦ (a.0, each_removed P test es a.1) ]

each_found : {X : Type 0} (P : X → Type 0) (test : List ℕ → Bool) (es : List (List ℕ × X)) (v : X) → Each P es → lookup test es ≡ Some v → P v
each_found P test [] v a h = absurd (cc)
each_found {X} P test (e ∷ es) v a h =
    elim (test e.0) as (λ b. cond b (Some e.1) (lookup test es) ≡ Some v → P v) [
      | true ↦ λ (i : Some e.1 ≡ Some v). let same : e.1 ≡ v = cc in subst P same a.0
      | false ↦ λ i. each_found P test es v a.1 i
    ] h

pub documents_kept : (c : List ℕ) (m : Map) → HoldsDocuments m → AreDocuments (documents_of c m)
documents_kept c m a = by (lookup (at c) m) refl
  where
    by : (o : Option Documents) → lookup (at c) m ≡ o → AreDocuments (unwrap_or o [])
    by None h = tt
    by (Some ds) h = each_found AreDocuments (at c) m ds a h

pub put_kept : (c d text : List ℕ) (m : Map) → IsDocument text → HoldsDocuments m → HoldsDocuments (put_text c d text m)
put_kept c d text m is a = each_upserted AreDocuments c (upsert d text (documents_of c m)) m (each_upserted IsDocument d text (documents_of c m) is (documents_kept c m a)) a

keep_kept : (c : List ℕ) (ds : Documents) (m : Map) → AreDocuments ds → HoldsDocuments m → HoldsDocuments (keep c ds m)
keep_kept c [] m p a = each_removed AreDocuments (at c) m a
keep_kept c (d ∷ ds) m p a = each_set AreDocuments (at c) (d ∷ ds) m p a

pub remove_kept : (c d : List ℕ) (m : Map) → HoldsDocuments m → HoldsDocuments (remove_text c d m)
remove_kept c d m a = by (lookup (at c) m) refl
  where
    by : (o : Option Documents) → lookup (at c) m ≡ o → HoldsDocuments (remove_by o c d m)
    by None h = a
    by (Some ds) h = keep_kept c (remove_entry (at d) ds) m (each_removed IsDocument (at d) ds (each_found AreDocuments (at c) m ds a h)) a

pub drop_kept : (c : List ℕ) (m : Map) → HoldsDocuments m → HoldsDocuments (drop_texts c m)
drop_kept c m a = each_removed AreDocuments (at c) m a
