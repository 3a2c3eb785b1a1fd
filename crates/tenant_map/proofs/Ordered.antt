-- A tenant's lists are a finite map: they stay in key order, and each change is the change of one place.
use Rattle.std.proofs.Common.{◌≡◌, ◌<◌, ℕ, List, [], ◌∷◌, length, Bool, true, false, cond, ◌&&◌, Option, Some, None, Ordering, refl, sym, ap, ◌∙◌, arith}
use Rattle.std.specs.Option.{option_and_then, unwrap_or}
use Rattle.std.specs.Ordering.{match_ordering, is_eq, ordering_reverse}
use Rattle.std.specs.declared.cmp.Ordering.TheVariants.{Less, Equal, Greater}
use Rattle.std.specs.Cmp.{eq_by_cmp_equiv}
use Rattle.std.specs.Cmp.Lexicographic.{nat_list_cmp_total}
use Rattle.std.specs.List.{AllByRecursion}
use Rattle.std.specs.Map.{lookup, remove_entry, set_value}
use Rattle.std.specs.BTreeMap.{insert_entry}
use Rattle.tenant_map.specs.Keyed.{bytes_cmp, at, upsert, upsert_by, Ascends}
use Rattle.tenant_map.specs.Maps.{Documents, Map, IsCollection, IsMap, text_at, documents_of, put_text, remove_text, remove_by, drop_texts, keep}
use Rattle.tenant_map.proofs.Seen.{All-remove_entry, All-set_value, All-insert_entry, lookup_holds}

pub at_symm : (x y : List ℕ) → at x y ≡ at y x
at_symm x y = (eq_by_cmp_equiv nat_list_cmp_total).symm x y

pub at_congr : (x y z : List ℕ) → at x y ≡ true → at x z ≡ at y z
at_congr x y z h = (eq_by_cmp_equiv nat_list_cmp_total).congr x y z h

-- ---- In key order

pub All-below : {X : Type 0} (k j : List ℕ) (es : List (List ℕ × X)) → bytes_cmp k j ≡ Less → AllByRecursion (λ f. bytes_cmp j f.0 ≡ Less) es → AllByRecursion (λ f. bytes_cmp k f.0 ≡ Less) es
All-below k j [] h a = tt
All-below k j (e ∷ es) h a = (nat_list_cmp_total.trans k j e.0 h a.0, All-below k j es h a.1)

pub ascends-remove : {X : Type 0} (k : List ℕ) (es : List (List ℕ × X)) → Ascends es → Ascends (remove_entry (at k) es)
ascends-remove k [] a = tt
ascends-remove {X} k (e ∷ es) a =
    elim (at k e.0) as (λ b. Ascends (cond b es (e ∷ remove_entry (at k) es)))
    [ true ↦ a.1 | false ↦ (All-remove_entry (λ (f : List ℕ × X). bytes_cmp e.0 f.0 ≡ Less) (at k) es a.0, ascends-remove k es a.1) ]

pub ascends-set_value : {X : Type 0} (k : List ℕ) (es : List (List ℕ × X)) (v : X) → Ascends es → Ascends (set_value (at k) es v)
ascends-set_value k [] v a = tt
ascends-set_value {X} k (e ∷ es) v a =
    elim (at k e.0) as (λ b. Ascends (cond b ((e.0, v) ∷ es) (e ∷ set_value (at k) es v)))
    [ true ↦ (a.0, a.1) | false ↦ (All-set_value (λ (f : List ℕ × X). bytes_cmp e.0 f.0 ≡ Less) (at k) es v (λ j x p. p) a.0, ascends-set_value k es v a.1) ]

ascends-insert : {X : Type 0} (k : List ℕ) (es : List (List ℕ × X)) (v : X) → Ascends es → Ascends (insert_entry bytes_cmp es k v)
ascends-insert k [] v a = (tt, tt)
ascends-insert {X} k (e ∷ es) v a = by (bytes_cmp k e.0) refl (ascends-insert k es v a.1)
  where
    by : (o : Ordering) → bytes_cmp k e.0 ≡ o → Ascends (insert_entry bytes_cmp es k v) → Ascends (match_ordering o ((k, v) ∷ e ∷ es) ((e.0, v) ∷ es) (e ∷ insert_entry bytes_cmp es k v))
    by Less h r = ((h, All-below k e.0 es h a.0), a)
    by Equal h r = (a.0, a.1)
    by Greater h r =
        (All-insert_entry (λ (f : List ℕ × X). bytes_cmp e.0 f.0 ≡ Less) bytes_cmp es k v (λ j x p. p) (nat_list_cmp_total.antisymm e.0 k ∙ ap ordering_reverse h) a.0, r)

pub ascends-upsert : {X : Type 0} (k : List ℕ) (v : X) (es : List (List ℕ × X)) → Ascends es → Ascends (upsert k v es)
ascends-upsert {X} k v es a = by (lookup (at k) es)
  where
    by : (o : Option X) → Ascends (upsert_by o k v es)
    by None = ascends-insert k es v a
    by (Some w) = ascends-set_value k es v a

some-insert : {X : Type 0} (k : List ℕ) (es : List (List ℕ × X)) (v : X) → 0 < length (insert_entry bytes_cmp es k v)
some-insert k [] v = omega arith
some-insert {X} k (e ∷ es) v =
    elim (bytes_cmp k e.0) as (λ o. 0 < length (match_ordering o ((k, v) ∷ e ∷ es) ((e.0, v) ∷ es) (e ∷ insert_entry bytes_cmp es k v)))
    [ Less ↦ omega arith | Equal ↦ omega arith | Greater ↦ omega arith ]

some-set_value : {X : Type 0} (k : List ℕ) (es : List (List ℕ × X)) (v w : X) → lookup (at k) es ≡ Some w → 0 < length (set_value (at k) es v)
some-set_value k [] v w h = absurd (cc)
some-set_value {X} k (e ∷ es) v w h =
    elim (at k e.0) as (λ b. 0 < length (cond b ((e.0, v) ∷ es) (e ∷ set_value (at k) es v))) [ true ↦ omega arith | false ↦ omega arith ]

some-upsert : {X : Type 0} (k : List ℕ) (v : X) (es : List (List ℕ × X)) → 0 < length (upsert k v es)
some-upsert {X} k v es = by (lookup (at k) es) refl
  where
    by : (o : Option X) → lookup (at k) es ≡ o → 0 < length (upsert_by o k v es)
    by None h = some-insert k es v
    by (Some w) h = some-set_value k es v w h

Each : List ℕ × Documents → Type 0
Each e = IsCollection e.1

documents-upsert : (c : List ℕ) (ds : Documents) (m : Map) → IsCollection ds → AllByRecursion (λ e. IsCollection e.1) m → AllByRecursion (λ e. IsCollection e.1) (upsert c ds m)
documents-upsert c ds m i a = by (lookup (at c) m)
  where
    by : (o : Option Documents) → AllByRecursion (λ e. IsCollection e.1) (upsert_by o c ds m)
    by None = All-insert_entry (λ (e : List ℕ × Documents). IsCollection e.1) bytes_cmp m c ds (λ j x p. i) i a
    by (Some w) = All-set_value (λ (e : List ℕ × Documents). IsCollection e.1) (at c) m ds (λ j x p. i) a

-- the documents of a collection are in key order
ordered_documents : (c : List ℕ) (m : Map) → IsMap m → Ascends (documents_of c m)
ordered_documents c m i = by (lookup (at c) m) refl
  where
    by : (o : Option Documents) → lookup (at c) m ≡ o → Ascends (unwrap_or o [])
    by None h = tt
    by (Some ds) h = (lookup_holds IsCollection (at c) m ds i.documents h).1

pub put_is_map : (c d t : List ℕ) (m : Map) → IsMap m → IsMap (put_text c d t m)
put_is_map c d t m i =
    let ds = documents_of c m in
    record {
      collections = ascends-upsert c (upsert d t ds) m i.collections;
      documents = documents-upsert c (upsert d t ds) m (some-upsert d t ds, ascends-upsert d t ds (ordered_documents c m i)) i.documents;
    }

pub drop_is_map : (c : List ℕ) (m : Map) → IsMap m → IsMap (drop_texts c m)
drop_is_map c m i = record { collections = ascends-remove c m i.collections; documents = All-remove_entry (λ (e : List ℕ × Documents). IsCollection e.1) (at c) m i.documents }

kept_is_map : (c : List ℕ) (ds : Documents) (m : Map) → Ascends ds → IsMap m → IsMap (keep c ds m)
kept_is_map c [] m a i = drop_is_map c m i
kept_is_map c (d ∷ ds) m a i =
    record {
      collections = ascends-set_value c m (d ∷ ds) i.collections;
      documents = All-set_value (λ (e : List ℕ × Documents). IsCollection e.1) (at c) m (d ∷ ds) (λ j x p. (omega arith, a)) i.documents;
    }

pub remove_is_map : (c d : List ℕ) (m : Map) → IsMap m → IsMap (remove_text c d m)
remove_is_map c d m i = by (lookup (at c) m) refl
  where
    by : (o : Option Documents) → lookup (at c) m ≡ o → IsMap (remove_by o c d m)
    by None h = i
    by (Some ds) h = kept_is_map c (remove_entry (at d) ds) m (ascends-remove d ds (lookup_holds IsCollection (at c) m ds i.documents h).1) i

-- ---- What is at a place

lookup-insert : {X : Type 0} (q k : List ℕ) (v : X) (es : List (List ℕ × X)) → lookup (at k) es ≡ None → lookup (at q) (insert_entry bytes_cmp es k v) ≡ cond (at q k) (Some v) (lookup (at q) es)
lookup-insert q k v [] h = refl
lookup-insert {X} q k v (e ∷ es) h = by (bytes_cmp k e.0) refl h (λ i. lookup-insert q k v es i)
  where
    swap_by : (a b : Bool) (r : Option X) → (a ≡ true → b ≡ true → ⊥) → cond a (Some e.1) (cond b (Some v) r) ≡ cond b (Some v) (cond a (Some e.1) r)
    swap_by true true r f = absurd (f refl refl)
    swap_by true false r f = refl
    swap_by false b r f = refl

    by : (o : Ordering) → bytes_cmp k e.0 ≡ o → cond (is_eq o) (Some e.1) (lookup (at k) es) ≡ None → (lookup (at k) es ≡ None → lookup (at q) (insert_entry bytes_cmp es k v) ≡ cond (at q k) (Some v) (lookup (at q) es))
        → lookup (at q) (match_ordering o ((k, v) ∷ e ∷ es) ((e.0, v) ∷ es) (e ∷ insert_entry bytes_cmp es k v)) ≡ cond (at q k) (Some v) (cond (at q e.0) (Some e.1) (lookup (at q) es))
    by Less p i f = refl
    by Equal p i f = absurd (cc)
    by Greater p i f =
        ap (cond (at q e.0) (Some e.1)) (f i)
        ∙ swap_by (at q e.0) (at q k) (lookup (at q) es) (λ a b. let w : true ≡ false = sym a ∙ at_congr q k e.0 b ∙ ap is_eq p in absurd (cc))

lookup-set : {X : Type 0} (q k : List ℕ) (v w : X) (es : List (List ℕ × X)) → lookup (at k) es ≡ Some w → lookup (at q) (set_value (at k) es v) ≡ cond (at q k) (Some v) (lookup (at q) es)
lookup-set q k v w [] h = absurd (cc)
lookup-set {X} q k v w (e ∷ es) h = by (at k e.0) refl h (λ i. lookup-set q k v w es i)
  where
    here : (a b : Bool) (r : Option X) → a ≡ b → cond a (Some v) r ≡ cond b (Some v) (cond a (Some e.1) r)
    here true true r i = refl
    here true false r i = absurd (cc)
    here false true r i = absurd (cc)
    here false false r i = refl

    swap_by : (a b : Bool) (r : Option X) → (a ≡ true → b ≡ true → ⊥) → cond a (Some e.1) (cond b (Some v) r) ≡ cond b (Some v) (cond a (Some e.1) r)
    swap_by true true r f = absurd (f refl refl)
    swap_by true false r f = refl
    swap_by false b r f = refl

    by : (b : Bool) → at k e.0 ≡ b → cond b (Some e.1) (lookup (at k) es) ≡ Some w → (lookup (at k) es ≡ Some w → lookup (at q) (set_value (at k) es v) ≡ cond (at q k) (Some v) (lookup (at q) es))
        → lookup (at q) (cond b ((e.0, v) ∷ es) (e ∷ set_value (at k) es v)) ≡ cond (at q k) (Some v) (cond (at q e.0) (Some e.1) (lookup (at q) es))
    by true p i f = here (at q e.0) (at q k) (lookup (at q) es) (at_symm q e.0 ∙ sym (at_congr k e.0 q p) ∙ at_symm k q)
    by false p i f =
        ap (cond (at q e.0) (Some e.1)) (f i)
        ∙ swap_by (at q e.0) (at q k) (lookup (at q) es) (λ a b. let w : true ≡ false = sym a ∙ at_congr q k e.0 b ∙ p in absurd (cc))

lookup-upsert : {X : Type 0} (q k : List ℕ) (v : X) (es : List (List ℕ × X)) → lookup (at q) (upsert k v es) ≡ cond (at q k) (Some v) (lookup (at q) es)
lookup-upsert {X} q k v es = by (lookup (at k) es) refl
  where
    by : (o : Option X) → lookup (at k) es ≡ o → lookup (at q) (upsert_by o k v es) ≡ cond (at q k) (Some v) (lookup (at q) es)
    by None h = lookup-insert q k v es h
    by (Some w) h = lookup-set q k v w es h

pub absent_below : {X : Type 0} (q x : List ℕ) (es : List (List ℕ × X)) → at q x ≡ true → AllByRecursion (λ f. bytes_cmp x f.0 ≡ Less) es → lookup (at q) es ≡ None
absent_below q x [] h a = refl
absent_below {X} q x (e ∷ es) h a = ap (λ b. cond b (Some e.1) (lookup (at q) es)) (at_congr q x e.0 h ∙ ap is_eq a.0) ∙ absent_below q x es h a.1

lookup-remove : {X : Type 0} (q k : List ℕ) (es : List (List ℕ × X)) → Ascends es → lookup (at q) (remove_entry (at k) es) ≡ cond (at q k) None (lookup (at q) es)
lookup-remove {X} q k [] a = elim (at q k) as (λ b. ◌≡◌ {A = Option X} None (cond b None None)) [ true ↦ refl | false ↦ refl ]
lookup-remove {X} q k (e ∷ es) a = by (at k e.0) refl (lookup-remove q k es a.1)
  where
    swap_by : (c b : Bool) (r : Option X) → (c ≡ true → b ≡ true → ⊥) → cond c (Some e.1) (cond b None r) ≡ cond b None (cond c (Some e.1) r)
    swap_by true true r f = absurd (f refl refl)
    swap_by true false r f = refl
    swap_by false b r f = refl

    here : (c b : Bool) (r : Option X) → c ≡ b → (c ≡ true → r ≡ None) → r ≡ cond b None (cond c (Some e.1) r)
    here true true r i f = f refl
    here true false r i f = absurd (cc)
    here false true r i f = absurd (cc)
    here false false r i f = refl

    by : (b : Bool) → at k e.0 ≡ b → lookup (at q) (remove_entry (at k) es) ≡ cond (at q k) None (lookup (at q) es)
        → lookup (at q) (cond b es (e ∷ remove_entry (at k) es)) ≡ cond (at q k) None (cond (at q e.0) (Some e.1) (lookup (at q) es))
    by true p f = here (at q e.0) (at q k) (lookup (at q) es) (at_symm q e.0 ∙ sym (at_congr k e.0 q p) ∙ at_symm k q) (λ h. absent_below q e.0 es h a.0)
    by false p f =
        ap (cond (at q e.0) (Some e.1)) f
        ∙ swap_by (at q e.0) (at q k) (lookup (at q) es) (λ c b. let w : true ≡ false = sym c ∙ at_congr q k e.0 b ∙ p in absurd (cc))

-- a look-up by a key that is like another
lookup_like : {X : Type 0} (q k : List ℕ) (es : List (List ℕ × X)) → at q k ≡ true → lookup (at q) es ≡ lookup (at k) es
lookup_like q k [] h = refl
lookup_like q k (e ∷ es) h = ap (λ b. cond b (Some e.1) (lookup (at q) es)) (at_congr q k e.0 h) ∙ ap (cond (at k e.0) (Some e.1)) (lookup_like q k es h)

text_in : (d : List ℕ) → Option Documents → Option (List ℕ)
text_in d o = lookup (at d) (unwrap_or o [])

-- the text at a place is that among its collection's documents
text_at_is : (c d : List ℕ) (m : Map) → text_at c d m ≡ lookup (at d) (documents_of c m)
text_at_is c d m = by (lookup (at c) m)
  where
    by : (o : Option Documents) → option_and_then (λ (ds : Documents). lookup (at d) ds) o ≡ lookup (at d) (unwrap_or o [])
    by None = refl
    by (Some ds) = refl

pub text_at-put : (c d t : List ℕ) (m : Map) (a b : List ℕ) → text_at a b (put_text c d t m) ≡ cond (at a c && at b d) (Some t) (text_at a b m)
text_at-put c d t m a b =
    ap (λ o. option_and_then (λ (ds : Documents). lookup (at b) ds) o) (lookup-upsert a c (upsert d t (documents_of c m)) m) ∙ by (at a c) refl
  where
    by : (x : Bool) → at a c ≡ x → option_and_then (λ (ds : Documents). lookup (at b) ds) (cond x (Some (upsert d t (documents_of c m))) (lookup (at a) m)) ≡ cond (x && at b d) (Some t) (text_at a b m)
    by true h =
        lookup-upsert b d t (documents_of c m)
        ∙ ap (cond (at b d) (Some t)) (sym (text_at_is a b m ∙ ap (λ (o : Option Documents). lookup (at b) (unwrap_or o [])) (lookup_like a c m h)))
    by false h = refl

pub text_at-drop : (c : List ℕ) (m : Map) (a b : List ℕ) → IsMap m → text_at a b (drop_texts c m) ≡ cond (at a c) None (text_at a b m)
text_at-drop c m a b i =
    ap (λ o. option_and_then (λ (ds : Documents). lookup (at b) ds) o) (lookup-remove a c m i.collections) ∙ by (at a c)
  where
    by : (x : Bool) → option_and_then (λ (ds : Documents). lookup (at b) ds) (cond x None (lookup (at a) m)) ≡ cond x None (text_at a b m)
    by true = refl
    by false = refl

text_at-keep : (c : List ℕ) (es ds : Documents) (m : Map) (a b : List ℕ) → IsMap m → lookup (at c) m ≡ Some ds → text_at a b (keep c es m) ≡ cond (at a c) (lookup (at b) es) (text_at a b m)
text_at-keep c [] ds m a b i h = text_at-drop c m a b i
text_at-keep c (e ∷ es) ds m a b i h =
    ap (λ o. option_and_then (λ (ds : Documents). lookup (at b) ds) o) (lookup-set a c (e ∷ es) ds m h) ∙ by (at a c)
  where
    by : (x : Bool) → option_and_then (λ (ds : Documents). lookup (at b) ds) (cond x (Some (e ∷ es)) (lookup (at a) m)) ≡ cond x (lookup (at b) (e ∷ es)) (text_at a b m)
    by true = refl
    by false = refl

pub text_at-remove : (c d : List ℕ) (m : Map) (a b : List ℕ) → IsMap m → text_at a b (remove_text c d m) ≡ cond (at a c && at b d) None (text_at a b m)
text_at-remove c d m a b i = by (lookup (at c) m) refl
  where
    -- the text, taken out of the documents of that collection
    one : (ds : Documents) → lookup (at c) m ≡ Some ds → at a c ≡ true → text_at a b m ≡ lookup (at b) ds
    one ds h l = ap (λ o. option_and_then (λ (es : Documents). lookup (at b) es) o) (lookup_like a c m l ∙ h)

    none : lookup (at c) m ≡ None → at a c ≡ true → text_at a b m ≡ None
    none h l = ap (λ o. option_and_then (λ (es : Documents). lookup (at b) es) o) (lookup_like a c m l ∙ h)

    absent : (x y : Bool) → (x ≡ true → text_at a b m ≡ None) → text_at a b m ≡ cond (x && y) None (text_at a b m)
    absent true true f = f refl
    absent true false f = refl
    absent false y f = refl

    taken : (ds : Documents) (x : Bool) → (x ≡ true → text_at a b m ≡ lookup (at b) ds) → cond x (cond (at b d) None (lookup (at b) ds)) (text_at a b m) ≡ cond (x && at b d) None (text_at a b m)
    taken ds true f = ap (cond (at b d) None) (sym (f refl))
    taken ds false f = refl

    by : (o : Option Documents) → lookup (at c) m ≡ o → text_at a b (remove_by o c d m) ≡ cond (at a c && at b d) None (text_at a b m)
    by None h = absent (at a c) (at b d) (none h)
    by (Some ds) h =
        text_at-keep c (remove_entry (at d) ds) ds m a b i h
        ∙ ap (λ r. cond (at a c) r (text_at a b m)) (lookup-remove b d ds (lookup_holds IsCollection (at c) m ds i.documents h).1)
        ∙ taken ds (at a c) (one ds h)
