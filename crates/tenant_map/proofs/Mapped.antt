-- Texts and collections of a map, where a collection is there and where it is not.
use Rattle.std.proofs.Common.{◌≡◌, ℕ, List, [], ◌∷◌, length, Bool, true, false, cond, Option, Some, None, refl, ap, sym, ◌∙◌, arith}
use Rattle.std.specs.Option.{option_and_then, unwrap_or}
use Rattle.std.specs.Map.{lookup, set_value, remove_entry}
use Rattle.std.specs.BTreeMap.{insert_entry}
use Rattle.tenant_map.specs.Keyed.{at, bytes_cmp, upsert, upsert_by}
use Rattle.tenant_map.specs.Maps.{Documents, Map, text_at, documents_of, put_text, remove_text, remove_by, drop_texts, keep}

pub text_at_some : (c d : List ℕ) (m : Map) (ds : Documents) → lookup (at c) m ≡ Some ds → text_at c d m ≡ lookup (at d) ds
text_at_some c d m ds h = ap (λ o. option_and_then (λ (es : Documents). lookup (at d) es) o) h

pub text_at_none : (c d : List ℕ) (m : Map) → lookup (at c) m ≡ None → text_at c d m ≡ None
text_at_none c d m h = ap (λ o. option_and_then (λ (es : Documents). lookup (at d) es) o) h

pub put_some : (c d t : List ℕ) (m : Map) (ds : Documents) → lookup (at c) m ≡ Some ds → set_value (at c) m (upsert d t ds) ≡ put_text c d t m
put_some c d t m ds h = sym (ap (λ (o : Option Documents). upsert_by o c (upsert d t (unwrap_or o [])) m) h)

pub put_none : (c d t : List ℕ) (m : Map) → lookup (at c) m ≡ None → insert_entry bytes_cmp m c (upsert d t []) ≡ put_text c d t m
put_none c d t m h = sym (ap (λ (o : Option Documents). upsert_by o c (upsert d t (unwrap_or o [])) m) h)

-- a value that is written over another and then taken out
pub remove-set_value : {K X : Type 0} (test : K → Bool) (es : List (K × X)) (v : X) → remove_entry test (set_value test es v) ≡ remove_entry test es
remove-set_value test [] v = refl
remove-set_value {K} {X} test (e ∷ es) v = by (test e.0) refl (remove-set_value test es v)
  where
    by : (b : Bool) → test e.0 ≡ b → remove_entry test (set_value test es v) ≡ remove_entry test es → remove_entry test (cond b ((e.0, v) ∷ es) (e ∷ set_value test es v)) ≡ cond b es (e ∷ remove_entry test es)
    by true h r = ap (λ b. cond b es ((e.0, v) ∷ remove_entry test es)) h
    by false h r = ap (λ b. cond b (set_value test es v) (e ∷ remove_entry test (set_value test es v))) h ∙ ap (λ xs. e ∷ xs) r

pub removed_some : (c d : List ℕ) (m : Map) (ds : Documents) → lookup (at c) m ≡ Some ds → keep c (remove_entry (at d) ds) m ≡ remove_text c d m
removed_some c d m ds h = sym (ap (λ o. remove_by o c d m) h)

-- the collection that holds none any more goes
pub kept_none : (c : List ℕ) (m : Map) (ds : Documents) → 0 ≡ length ds → drop_texts c (set_value (at c) m ds) ≡ keep c ds m
kept_none c m [] h = remove-set_value (at c) m []
kept_none c m (d ∷ ds) h = absurd (omega arith)

pub kept_some : (c : List ℕ) (m : Map) (ds : Documents) → (0 ≡ length ds → ⊥) → set_value (at c) m ds ≡ keep c ds m
kept_some c m [] h = absurd (h refl)
kept_some c m (d ∷ ds) h = refl

-- what is not there is not taken out
pub remove_absent : {K X : Type 0} (test : K → Bool) (es : List (K × X)) → lookup test es ≡ None → remove_entry test es ≡ es
remove_absent test [] h = refl
remove_absent {K} {X} test (e ∷ es) h =
    elim (test e.0) as (λ b. cond b (Some e.1) (lookup test es) ≡ None → cond b es (e ∷ remove_entry test es) ≡ e ∷ es)
    [ true ↦ λ (i : Some e.1 ≡ None). absurd (cc) | false ↦ λ i. ap (λ xs. e ∷ xs) (remove_absent test es i) ] h

-- where a text is, its collection is
pub record IsThere (c d t : List ℕ) (m : Map) : Type 0 where
  pub documents : Documents
  pub collection_is : lookup (at c) m ≡ Some documents
  pub text_is : lookup (at d) documents ≡ Some t

pub there : (c d t : List ℕ) (m : Map) → text_at c d m ≡ Some t → IsThere c d t m
there c d t m h = by (lookup (at c) m) refl
  where
    by : (o : Option Documents) → lookup (at c) m ≡ o → IsThere c d t m
    by None i = let q : None ≡ Some t = sym (text_at_none c d m i) ∙ h in absurd (cc)
    by (Some ds) i = record { documents = ds; collection_is = i; text_is = sym (text_at_some c d m ds i) ∙ h }

pub documents_some : (c : List ℕ) (m : Map) (ds : Documents) → lookup (at c) m ≡ Some ds → documents_of c m ≡ ds
documents_some c m ds h = ap (λ (o : Option Documents). unwrap_or o []) h

pub documents_none : (c : List ℕ) (m : Map) → lookup (at c) m ≡ None → documents_of c m ≡ []
documents_none c m h = ap (λ (o : Option Documents). unwrap_or o []) h
