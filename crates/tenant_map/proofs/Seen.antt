-- What is done to entries is done to them as they are seen.
use Rattle.std.proofs.Common.{◌≡◌, Bor, subst, suc, List, [], ◌∷◌, length, Bool, true, false, cond, Option, Some, None, Ordering, refl, ap, ◌∙◌}
use Rattle.std.proofs.lemmas.Iterator.Adapters.{option_map_id}
use Rattle.std.specs.Option.{option_map, option_copied}
use Rattle.std.specs.List.{AllByRecursion}
use Rattle.std.specs.Ordering.{match_ordering}
use Rattle.std.specs.declared.cmp.Ordering.TheVariants.{Less, Equal, Greater}
use Rattle.std.specs.Map.{lookup, remove_entry, set_value}
use Rattle.std.specs.BTreeMap.{insert_entry}
use Rattle.tenant_map.specs.Keyed.{seen_by}

pub length-seen : {K J X Y : Type 0} (g : K → J) (h : X → Y) (es : List (K × X)) → length (seen_by g h es) ≡ length es
length-seen g h [] = refl
length-seen g h (e ∷ es) = ap suc (length-seen g h es)

pub lookup-seen : {K J X Y : Type 0} (g : K → J) (h : X → Y) (test : J → Bool) (es : List (K × X)) → lookup test (seen_by g h es) ≡ option_map h (lookup (λ k. test (g k)) es)
lookup-seen g h test [] = refl
lookup-seen {Y = Y} g h test (e ∷ es) =
    elim (test (g e.0)) as (λ b. cond b (Some (h e.1)) (lookup test (seen_by g h es)) ≡ option_map h (cond b (Some e.1) (lookup (λ k. test (g k)) es)))
    [ true ↦ refl | false ↦ lookup-seen g h test es ]

-- where the values are seen as they are
pub lookup-under : {K J X : Type 0} (g : K → J) (test : J → Bool) (es : List (K × X)) → lookup test (seen_by g (λ x. x) es) ≡ lookup (λ k. test (g k)) es
lookup-under g test es = lookup-seen g (λ x. x) test es ∙ option_map_id (lookup (λ k. test (g k)) es)

pub remove_entry-seen : {K J X Y : Type 0} (g : K → J) (h : X → Y) (test : J → Bool) (es : List (K × X)) → remove_entry test (seen_by g h es) ≡ seen_by g h (remove_entry (λ k. test (g k)) es)
remove_entry-seen g h test [] = refl
remove_entry-seen g h test (e ∷ es) =
    elim (test (g e.0)) as (λ b. cond b (seen_by g h es) ((g e.0, h e.1) ∷ remove_entry test (seen_by g h es)) ≡ seen_by g h (cond b es (e ∷ remove_entry (λ k. test (g k)) es)))
    [ true ↦ refl | false ↦ ap (λ xs. (g e.0, h e.1) ∷ xs) (remove_entry-seen g h test es) ]

pub set_value-seen : {K J X Y : Type 0} (g : K → J) (h : X → Y) (test : J → Bool) (es : List (K × X)) (v : X) → set_value test (seen_by g h es) (h v) ≡ seen_by g h (set_value (λ k. test (g k)) es v)
set_value-seen g h test [] v = refl
set_value-seen g h test (e ∷ es) v =
    elim (test (g e.0)) as (λ b. cond b ((g e.0, h v) ∷ seen_by g h es) ((g e.0, h e.1) ∷ set_value test (seen_by g h es) (h v)) ≡ seen_by g h (cond b ((e.0, v) ∷ es) (e ∷ set_value (λ k. test (g k)) es v)))
    [ true ↦ refl | false ↦ ap (λ xs. (g e.0, h e.1) ∷ xs) (set_value-seen g h test es v) ]

pub insert_entry-seen : {K J X Y : Type 0} (g : K → J) (h : X → Y) (R : J → J → Ordering) (es : List (K × X)) (k : K) (v : X) → insert_entry R (seen_by g h es) (g k) (h v) ≡ seen_by g h (insert_entry (λ a b. R (g a) (g b)) es k v)
insert_entry-seen g h R [] k v = refl
insert_entry-seen g h R (e ∷ es) k v =
    elim (R (g k) (g e.0)) as (λ o. match_ordering o ((g k, h v) ∷ (g e.0, h e.1) ∷ seen_by g h es) ((g e.0, h v) ∷ seen_by g h es) ((g e.0, h e.1) ∷ insert_entry R (seen_by g h es) (g k) (h v)) ≡ seen_by g h (match_ordering o ((k, v) ∷ e ∷ es) ((e.0, v) ∷ es) (e ∷ insert_entry (λ a b. R (g a) (g b)) es k v)))
    [ Less ↦ refl | Equal ↦ refl | Greater ↦ ap (λ xs. (g e.0, h e.1) ∷ xs) (insert_entry-seen g h R es k v) ]

-- ---- What holds of each entry

pub All-remove_entry : {K X : Type 0} (P : K × X → Type 0) (test : K → Bool) (es : List (K × X)) → AllByRecursion P es → AllByRecursion P (remove_entry test es)
All-remove_entry P test [] a = a
All-remove_entry P test (e ∷ es) a =
    elim (test e.0) as (λ b. AllByRecursion P (cond b es (e ∷ remove_entry test es))) [ true ↦ a.1 | false ↦ (a.0, All-remove_entry P test es a.1) ]

pub All-set_value : {K X : Type 0} (P : K × X → Type 0) (test : K → Bool) (es : List (K × X)) (v : X) → ((k : K) (x : X) → P (k, x) → P (k, v)) → AllByRecursion P es → AllByRecursion P (set_value test es v)
All-set_value P test [] v f a = a
All-set_value P test (e ∷ es) v f a =
    elim (test e.0) as (λ b. AllByRecursion P (cond b ((e.0, v) ∷ es) (e ∷ set_value test es v))) [ true ↦ (f e.0 e.1 a.0, a.1) | false ↦ (a.0, All-set_value P test es v f a.1) ]

pub All-insert_entry : {K X : Type 0} (P : K × X → Type 0) (R : K → K → Ordering) (es : List (K × X)) (k : K) (v : X) → ((j : K) (x : X) → P (j, x) → P (j, v)) → P (k, v) → AllByRecursion P es → AllByRecursion P (insert_entry R es k v)
All-insert_entry P R [] k v f p a = (p, tt)
All-insert_entry P R (e ∷ es) k v f p a =
    elim (R k e.0) as (λ o. AllByRecursion P (match_ordering o ((k, v) ∷ e ∷ es) ((e.0, v) ∷ es) (e ∷ insert_entry R es k v)))
    [ Less ↦ (p, a) | Equal ↦ (f e.0 e.1 a.0, a.1) | Greater ↦ (a.0, All-insert_entry P R es k v f p a.1) ]

pub lookup_holds : {K X : Type 0} (P : X → Type 0) (test : K → Bool) (es : List (K × X)) (x : X) → AllByRecursion (λ e. P e.1) es → lookup test es ≡ Some x → P x
lookup_holds P test [] x a h = absurd (cc)
lookup_holds {K} {X} P test (e ∷ es) x a h =
    elim (test e.0) as (λ b. cond b (Some e.1) (lookup test es) ≡ Some x → P x)
    [ true ↦ λ (i : Some e.1 ≡ Some x). let p : e.1 ≡ x = cc in subst P p a.0 | false ↦ λ i. lookup_holds P test es x a.1 i ] h

pub copied-map : {A B : Type 0} (f : A → B) (r : Option (Bor A)) → option_map (λ d. f d.now) r ≡ option_map f (option_copied r)
copied-map f None = refl
copied-map f (Some d) = refl
