-- Maps with the same texts at all places are equal.
use Rattle.std.proofs.Common.{◌≡◌, ℕ, List, [], ◌∷◌, Bool, true, false, cond, Option, Some, None, Ordering, refl, sym, ap, ◌∙◌, arith}
use Rattle.std.specs.Option.{option_and_then}
use Rattle.std.specs.Ordering.{ordering_reverse}
use Rattle.std.specs.declared.cmp.Ordering.TheVariants.{Less, Equal, Greater}
use Rattle.std.specs.Cmp.{eq_by_cmp_equiv}
use Rattle.std.specs.Cmp.Lexicographic.{nat_list_cmp_total}
use Rattle.std.specs.Map.{lookup}
use Rattle.std.specs.FinMap.{slice_cmp-IsAntisymmetric, nat_cmp-IsAntisymmetric}
use Rattle.tenant_map.specs.Keyed.{bytes_cmp, at, Ascends}
use Rattle.tenant_map.specs.Maps.{Documents, IsCollection, SameTexts}
use Rattle.tenant_map.proofs.Seen.{lookup_holds}
use Rattle.tenant_map.proofs.Ordered.{All-below, absent_below}

at_itself : (k : List ℕ) → at k k ≡ true
at_itself k = (eq_by_cmp_equiv nat_list_cmp_total).refl k

none_some : {X : Type 0} {A : Type 0} (x : X) → None ≡ Some x → A
none_some x h = absurd cc

-- what stands in front is found
found_first : {X : Type 0} (e : List ℕ × X) (es : List (List ℕ × X)) → lookup (at e.0) (e ∷ es) ≡ Some e.1
found_first e es = ap (λ b. cond b (Some e.1) (lookup (at e.0) es)) (at_itself e.0)

-- what is below all keys is not found
below_all : {X : Type 0} (k : List ℕ) (f : List ℕ × X) (fs : List (List ℕ × X)) → bytes_cmp k f.0 ≡ Less → Ascends (f ∷ fs) → lookup (at k) (f ∷ fs) ≡ None
below_all k f fs l a = absent_below k k (f ∷ fs) (at_itself k) (l, All-below k f.0 fs l a.0)

Same : {X : Type 0} → (es fs : List (List ℕ × X)) → Type 0
Same es fs = (q : List ℕ) → lookup (at q) es ≡ lookup (at q) fs

-- the rest, where the same key stands in front of both
rest : {X : Type 0} (e f : List ℕ × X) (es fs : List (List ℕ × X)) → e.0 ≡ f.0 → Ascends (e ∷ es) → Ascends (f ∷ fs) → Same (e ∷ es) (f ∷ fs) → Same es fs
unfolding Same
rest {X} e f es fs k a b h = λ q. by q (at q e.0) (at q f.0) refl refl (ap (at q) k) (h q)
  where
    by : (q : List ℕ) (x y : Bool) → at q e.0 ≡ x → at q f.0 ≡ y → at q e.0 ≡ at q f.0 → cond x (Some e.1) (lookup (at q) es) ≡ cond y (Some f.1) (lookup (at q) fs) → lookup (at q) es ≡ lookup (at q) fs
    by q true true p r s i = absent_below q e.0 es p a.0 ∙ sym (absent_below q f.0 fs r b.0)
    by q true false p r s i = let w : true ≡ false = sym p ∙ s ∙ r in absurd cc
    by q false true p r s i = let w : false ≡ true = sym p ∙ s ∙ r in absurd cc
    by q false false p r s i = i

pub same_entries : {X : Type 0} (es fs : List (List ℕ × X)) → Ascends es → Ascends fs → ((q : List ℕ) → lookup (at q) es ≡ lookup (at q) fs) → es ≡ fs
unfolding Same
same_entries [] [] a b h = refl
same_entries [] (f ∷ fs) a b h = none_some f.1 (h f.0 ∙ found_first f fs)
same_entries (e ∷ es) [] a b h = none_some e.1 (sym (h e.0) ∙ found_first e es)
same_entries {X} (e ∷ es) (f ∷ fs) a b h = by (bytes_cmp e.0 f.0) refl (λ s. same_entries es fs a.1 b.1 s)
  where
    some_same : (x y : X) → Some x ≡ Some y → x ≡ y
    some_same x y i = cc

    by : (o : Ordering) → bytes_cmp e.0 f.0 ≡ o → (((q : List ℕ) → lookup (at q) es ≡ lookup (at q) fs) → es ≡ fs) → e ∷ es ≡ f ∷ fs
    by Less p g = none_some e.1 (sym (below_all e.0 f fs p b) ∙ sym (h e.0) ∙ found_first e es)
    by Greater p g = none_some f.1 (sym (below_all f.0 e es (nat_list_cmp_total.antisymm f.0 e.0 ∙ ap ordering_reverse p) a) ∙ h f.0 ∙ found_first f fs)
    by Equal p g =
        let k : e.0 ≡ f.0 = slice_cmp-IsAntisymmetric nat_cmp-IsAntisymmetric e.0 f.0 p in
        let v : e.1 ≡ f.1 = some_same e.1 f.1 (sym (found_first e es) ∙ h e.0 ∙ ap (λ q. lookup (at q) (f ∷ fs)) k ∙ found_first f fs) in
        let front : e ≡ f = λ i. (k i, v i) in
        ap (λ x. x ∷ es) front ∙ ap (λ xs. f ∷ xs) (g (rest e f es fs k a b h))

-- ---- Two levels

-- the documents there have the same texts
same_documents : (ds es : Documents) → IsCollection ds → IsCollection es → ((d : List ℕ) → lookup (at d) ds ≡ lookup (at d) es) → ds ≡ es
same_documents ds es i k h = same_entries ds es i.1 k.1 h

-- a collection that holds a document is not absent
not_absent : {A : Type 0} (ds : Documents) → IsCollection ds → ((d : List ℕ) → lookup (at d) ds ≡ None) → A
not_absent [] i h = absurd (omega (arith, i.0))
not_absent (e ∷ es) i h = none_some e.1 (sym (h e.0) ∙ found_first e es)

same_collections : (x y : Option Documents) → ((ds : Documents) → x ≡ Some ds → IsCollection ds) → ((ds : Documents) → y ≡ Some ds → IsCollection ds)
    → ((d : List ℕ) → option_and_then (λ (ds : Documents). lookup (at d) ds) x ≡ option_and_then (λ (ds : Documents). lookup (at d) ds) y) → x ≡ y
same_collections None None i k h = refl
same_collections None (Some es) i k h = not_absent es (k es refl) (λ d. sym (h d))
same_collections (Some ds) None i k h = not_absent ds (i ds refl) h
same_collections (Some ds) (Some es) i k h = ap Some (same_documents ds es (i ds refl) (k es refl) h)

pub same_texts : SameTexts
same_texts m n i k h =
    same_entries m n i.collections k.collections
    (λ c. same_collections (lookup (at c) m) (lookup (at c) n) (λ ds e. lookup_holds IsCollection (at c) m ds i.documents e) (λ ds e. lookup_holds IsCollection (at c) n ds k.documents e) (h c))
