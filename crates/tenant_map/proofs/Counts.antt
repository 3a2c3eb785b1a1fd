-- What a put and a removal do to the counts.
use Rattle.std.proofs.Common.{◌≡◌, ◌≤◌, ℕ, ◌+◌, suc, List, [], ◌∷◌, length, Option, Some, None, cond, Bool, true, false, sym, ap, ◌∙◌, refl, arith, add-zero}
use Rattle.std.specs.Option.{unwrap_or}
use Rattle.std.specs.List.{sum_by}
use Rattle.std.specs.Ordering.{match_ordering, is_eq}
use Rattle.std.specs.declared.cmp.Ordering.TheVariants.{Less, Equal, Greater}
use Rattle.std.specs.Map.{lookup, remove_entry, set_value, values_of}
use Rattle.std.specs.BTreeMap.{insert_entry}
use Rattle.std.proofs.lemmas.List.Sums.{sum_by-cons}
use Rattle.tenant_map.specs.Maps.{Map, Documents, text_at, put_text, remove_text, drop_texts, keep, documents_of, documents_in, bytes_in, bytes_of}
use Rattle.tenant_map.specs.Quotas.{replaced, replaced_by, replaced_text}
use Rattle.tenant_map.specs.Maps as maps
use Rattle.tenant_map.proofs.Mapped.{there}
use Rattle.tenant_map.specs.Keyed.{bytes_cmp, at, upsert, upsert_by}

total : {X : Type 0} → (X → ℕ) → List (List ℕ × X) → ℕ
total f es = sum_by f (values_of es)

total-cons : {X : Type 0} (f : X → ℕ) (e : List ℕ × X) (es : List (List ℕ × X)) → total f (e ∷ es) ≡ f e.1 + total f es
unfolding total
total-cons f e es = sum_by-cons f e.1 (values_of es)

total-nil : {X : Type 0} (f : X → ℕ) → total {X = X} f [] ≡ 0
unfolding total
total-nil f = refl

-- a value put in place of another
sum-set : {X : Type 0} (f : X → ℕ) (test : List ℕ → Bool) (es : List (List ℕ × X)) (v w : X) → lookup test es ≡ Some w → total f (set_value test es v) + f w ≡ total f es + f v
sum-set f test [] v w h = absurd (cc)
sum-set {X} f test (e ∷ es) v w h =
    elim (test e.0) as (λ b. cond b (Some e.1) (lookup test es) ≡ Some w → total f (cond b ((e.0, v) ∷ es) (e ∷ set_value test es v)) + f w ≡ total f (e ∷ es) + f v) [
      | true ↦ λ (i : Some e.1 ≡ Some w). let p : e.1 ≡ w = cc in let q : f e.1 ≡ f w = ap f p in let r : total f ((e.0, v) ∷ es) + f w ≡ total f (e ∷ es) + f v = omega (arith, total-cons f (e.0, v) es, total-cons f e es) in r
      | false ↦ λ i. let k = sum-set f test es v w i in let r : total f (e ∷ set_value test es v) + f w ≡ total f (e ∷ es) + f v = omega (arith, total-cons f e (set_value test es v), total-cons f e es) in r
    ] h

-- a new one in its place in the order
sum-insert : {X : Type 0} (f : X → ℕ) (k : List ℕ) (es : List (List ℕ × X)) (v : X) → lookup (at k) es ≡ None → total f (insert_entry bytes_cmp es k v) ≡ total f es + f v
sum-insert {X} f k [] v h = omega (arith, total-cons f (k, v) [], total-nil f)
sum-insert {X} f k (e ∷ es) v h =
    elim (bytes_cmp k e.0) as (λ o. cond (is_eq o) (Some e.1) (lookup (at k) es) ≡ None → total f (match_ordering o ((k, v) ∷ e ∷ es) ((e.0, v) ∷ es) (e ∷ insert_entry bytes_cmp es k v)) ≡ total f (e ∷ es) + f v) [
      | Less ↦ λ i. let r : total f ((k, v) ∷ e ∷ es) ≡ total f (e ∷ es) + f v = omega (arith, total-cons f (k, v) (e ∷ es)) in r
      | Equal ↦ λ (i : Some e.1 ≡ None). absurd (cc)
      | Greater ↦ λ i. let q = sum-insert f k es v i in let r : total f (e ∷ insert_entry bytes_cmp es k v) ≡ total f (e ∷ es) + f v = omega (arith, total-cons f e (insert_entry bytes_cmp es k v), total-cons f e es) in r
    ] h

-- what is there counts as nothing where there is none
abbrev pub had : {X : Type 0} → (X → ℕ) → Option X → ℕ
had f None = 0
had f (Some x) = f x

pub sum-upsert : {X : Type 0} (f : X → ℕ) (k : List ℕ) (v : X) (es : List (List ℕ × X)) → sum_by f (values_of (upsert k v es)) + had f (lookup (at k) es) ≡ sum_by f (values_of es) + f v
unfolding total
sum-upsert {X} f k v es = by (lookup (at k) es) refl
  where
    by : (o : Option X) → lookup (at k) es ≡ o → total f (upsert_by o k v es) + had f o ≡ total f es + f v
    by None h = add-zero _ ∙ sum-insert f k es v h
    by (Some w) h = sum-set f (at k) es v w h

sum-without : {X : Type 0} (f : X → ℕ) (test : List ℕ → Bool) (es : List (List ℕ × X)) → total f (remove_entry test es) + had f (lookup test es) ≡ total f es
sum-without {X} f test [] = add-zero _
sum-without {X} f test (e ∷ es) =
    let q = sum-without f test es in
    elim (test e.0) as (λ b. total f (cond b es (e ∷ remove_entry test es)) + had f (cond b (Some e.1) (lookup test es)) ≡ total f (e ∷ es)) [
      | true ↦ let r : total f es + f e.1 ≡ total f (e ∷ es) = omega (arith, total-cons f e es) in r
      | false ↦ let r : total f (e ∷ remove_entry test es) + had f (lookup test es) ≡ total f (e ∷ es) = omega (arith, total-cons f e es, total-cons f e (remove_entry test es)) in r
    ]

pub sum-remove : {X : Type 0} (f : X → ℕ) (test : List ℕ → Bool) (es : List (List ℕ × X)) → sum_by f (values_of (remove_entry test es)) + had f (lookup test es) ≡ sum_by f (values_of es)
unfolding total
sum-remove f test es = sum-without f test es

-- how many entries
length-by : {X : Type 0} (es : List (List ℕ × X)) → length es ≡ sum_by (λ x. 1) (values_of es)
length-by [] = refl
length-by {X} (e ∷ es) = one_add (length es) (sum_by (λ (x : X). 1) (values_of es)) (length-by es) ∙ sym (sum_by-cons (λ (x : X). 1) e.1 (values_of es))
  where
    one_add : (n m : ℕ) → n ≡ m → suc n ≡ 1 + m
    one_add n m h = omega arith

pub length-upsert : {X : Type 0} (k : List ℕ) (v : X) (es : List (List ℕ × X)) → length (upsert k v es) + had (λ x. 1) (lookup (at k) es) ≡ length es + 1
length-upsert k v es = omega (arith, length-by (upsert k v es), length-by es, sum-upsert (λ x. 1) k v es)

-- what a put does to the usage
pub record IsUsageAfter (c d t : List ℕ) (m : Map) : Type 0 where
  pub collections : length (put_text c d t m) + (replaced c d m).collections ≡ length m + 1
  pub documents : documents_in (put_text c d t m) + (replaced c d m).documents ≡ documents_in m + 1
  pub bytes : bytes_in (put_text c d t m) + (replaced c d m).bytes ≡ bytes_in m + length t

had_empty : (f : Documents → ℕ) → f [] ≡ 0 → (o : Option Documents) → had f o ≡ f (unwrap_or o [])
had_empty f z None = sym z
had_empty f z (Some ds) = refl

text_collections : (o : Option (List ℕ)) → (replaced_text o).collections ≡ 1
text_collections None = refl
text_collections (Some t) = refl

text_documents : (o : Option (List ℕ)) → (replaced_text o).documents ≡ had (λ x. 1) o
text_documents None = refl
text_documents (Some t) = refl

text_bytes : (o : Option (List ℕ)) → (replaced_text o).bytes ≡ had length o
text_bytes None = refl
text_bytes (Some t) = refl

by_collections : (d : List ℕ) (o : Option Documents) → (replaced_by d o).collections ≡ had (λ x. 1) o
by_collections d None = refl
by_collections d (Some ds) = text_collections (lookup (at d) ds)

by_documents : (d : List ℕ) (o : Option Documents) → (replaced_by d o).documents ≡ had (λ x. 1) (lookup (at d) (unwrap_or o []))
by_documents d None = refl
by_documents d (Some ds) = text_documents (lookup (at d) ds)

by_bytes_of : (d : List ℕ) (o : Option Documents) → (replaced_by d o).bytes ≡ had length (lookup (at d) (unwrap_or o []))
by_bytes_of d None = refl
by_bytes_of d (Some ds) = text_bytes (lookup (at d) ds)

pub usage-put : (c d t : List ℕ) (m : Map) → IsUsageAfter c d t m
usage-put c d t m =
    let ds = documents_of c m in
    record {
      collections = omega (arith, length-upsert c (upsert d t ds) m, by_collections d (lookup (at c) m));
      documents = omega (arith, sum-upsert length c (upsert d t ds) m, length-upsert d t ds, had_empty length refl (lookup (at c) m), by_documents d (lookup (at c) m));
      bytes = omega (arith, sum-upsert bytes_of c (upsert d t ds) m, sum-upsert length d t ds, had_empty bytes_of refl (lookup (at c) m), by_bytes_of d (lookup (at c) m));
    }

-- ---- What is taken out

-- what a removal does to the usage, where the text was there
pub record IsUsageWithout (c d t : List ℕ) (m : Map) : Type 0 where
  pub collections : length (remove_text c d m) ≤ length m
  pub documents : documents_in (remove_text c d m) + 1 ≡ documents_in m
  pub bytes : bytes_in (remove_text c d m) + length t ≡ bytes_in m

-- a sum over the collections, where the documents of one become these
kept_total : (f : Documents → ℕ) (c : List ℕ) (ds es : Documents) (m : Map) → f [] ≡ 0 → lookup (at c) m ≡ Some ds → total f (keep c es m) + f ds ≡ total f m + f es
kept_total f c ds [] m z h = omega (arith, z, ap (had f) h, sum-without f (at c) m)
kept_total f c ds (e ∷ es) m z h = sum-set f (at c) m (e ∷ es) ds h

length-set_value : {X : Type 0} (test : List ℕ → Bool) (es : List (List ℕ × X)) (v : X) → length (set_value test es v) ≡ length es
length-set_value test [] v = refl
length-set_value {X} test (e ∷ es) v = elim (test e.0) as (λ b. length (cond b ((e.0, v) ∷ es) (e ∷ set_value test es v)) ≡ length (e ∷ es)) [ true ↦ refl | false ↦ ap suc (length-set_value test es v) ]

pub length-remove_entry : {X : Type 0} (test : List ℕ → Bool) (es : List (List ℕ × X)) → length (remove_entry test es) ≤ length es
length-remove_entry test [] = omega arith
length-remove_entry {X} test (e ∷ es) =
    let h = length-remove_entry test es in
    elim (test e.0) as (λ b. length (cond b es (e ∷ remove_entry test es)) ≤ length (e ∷ es)) [ true ↦ omega (arith) | false ↦ omega (arith, h) ]

kept_length : (c : List ℕ) (es : Documents) (m : Map) → length (keep c es m) ≤ length m
kept_length c [] m = length-remove_entry (at c) m
kept_length c (e ∷ es) m = omega (arith, length-set_value (at c) m (e ∷ es))

pub usage-removed : (c d t : List ℕ) (m : Map) (ds : Documents) → lookup (at c) m ≡ Some ds → lookup (at d) ds ≡ Some t → IsUsageWithout c d t m
unfolding total
usage-removed c d t m ds h k =
    let is : keep c (remove_entry (at d) ds) m ≡ remove_text c d m = sym (ap (λ o. maps.remove_by o c d m) h) in
    let one = length_without (at d) ds t k in
    let rest : bytes_of (remove_entry (at d) ds) + length t ≡ bytes_of ds = omega (arith, ap (had length) k, sum-without length (at d) ds) in
    record {
      collections = omega (arith, ap (λ (n : Map). length n) is, kept_length c (remove_entry (at d) ds) m);
      documents = omega (arith, ap documents_in is, kept_total length c ds (remove_entry (at d) ds) m refl h, one);
      bytes = omega (arith, ap bytes_in is, kept_total bytes_of c ds (remove_entry (at d) ds) m refl h, rest);
    }
  where
    length_without : (test : List ℕ → Bool) (es : List (List ℕ × List ℕ)) (v : List ℕ) → lookup test es ≡ Some v → length (remove_entry test es) + 1 ≡ length es
    length_without test es v i = omega (arith, length-by (remove_entry test es), length-by es, sum-without (λ x. 1) test es, ap (had (λ x. 1)) i)

pub usage-without : (c d t : List ℕ) (m : Map) → text_at c d m ≡ Some t → IsUsageWithout c d t m
usage-without c d t m h = let i = there c d t m h in usage-removed c d t m i.documents i.collection_is i.text_is

-- what dropping a collection does to the usage
pub record IsUsageDropped (c : List ℕ) (ds : Documents) (m : Map) : Type 0 where
  pub collections : length (drop_texts c m) ≤ length m
  pub documents : documents_in (drop_texts c m) + length ds ≡ documents_in m
  pub bytes : bytes_in (drop_texts c m) + bytes_of ds ≡ bytes_in m

pub usage-dropped : (c : List ℕ) (ds : Documents) (m : Map) → lookup (at c) m ≡ Some ds → IsUsageDropped c ds m
unfolding total
usage-dropped c ds m h =
    record {
      collections = length-remove_entry (at c) m;
      documents = omega (arith, ap (had length) h, sum-without length (at c) m);
      bytes = omega (arith, ap (had bytes_of) h, sum-without bytes_of (at c) m);
    }
