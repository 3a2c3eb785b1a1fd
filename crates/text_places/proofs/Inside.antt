-- The object that a named value lies in, and that a number is that of one value.
use Rattle.json_text.proofs.Names.{◌≡◌, ℕ, ◌+◌, ◌<◌, ◌≤◌, ◌⊎◌, inl, inr, refl, sym, subst, arith, Source, Tree, Obj, Elements, Members, Label, Named, IsAt, itself, in_array, in_object, IsInElements, in_element, in_later_element, IsInMembers, in_member, in_later_member, size, size_of_elements, size_of_members}
use Rattle.json_text.specs.declared.tape.Extent.{Extent}
use Rattle.json_text.proofs.Entries.{size_positive}
use Rattle.text_places.proofs.Levels.{under_elements, under_members}

-- an object at its number, in whose members this value is
pub record Within (At : ℕ → ℕ → Label → Tree → Type 0) (n up : ℕ) (label : Label) (value : Tree) : Type 0 where
  pub source : Source
  pub members : Members
  pub up' : ℕ
  pub label' : Label
  pub is_at : At up up' label' (Obj source members)
  pub is_in : IsInMembers members up (up + 1) n up label value

further : {n up : ℕ} {label : Label} {value : Tree} (At Bt : ℕ → ℕ → Label → Tree → Type 0) → ((k u : ℕ) (l : Label) (s : Tree) → At k u l s → Bt k u l s) → Within At n up label value → Within Bt n up label value
further {up = up} At Bt f r = record { source = r.source; members = r.members; up' = r.up'; label' = r.label'; is_at = f up r.up' r.label' (Obj r.source r.members) r.is_at; is_in = r.is_in }

mutual
  pub within : {t s : Tree} {up k n up' : ℕ} {label label' : Label} → IsAt t up label k n up' label' s → (x : Extent) → label' ≡ Named x → ((label ≡ Named x) × (up' ≡ up)) ⊎ Within (λ n u l r. IsAt t up label k n u l r) n up' label' s
  within itself x e = inl (e, refl)
  within (in_array h) x e = inr (further _ _ (λ n u l s i. in_array i) (within_elements h x e))
  within (in_object {s = s} {ms = ms} {up = up} {k = k} {n = n} {up' = o} {label = label} {label' = label'} {t = t} h) x e = elim (within_members h x e) [
    | inl f ↦ inr (record {
      source = s;
      members = ms;
      up' = up;
      label' = label;
      is_at = subst (λ u. IsAt (Obj s ms) up label k u up label (Obj s ms)) (sym f) itself;
      is_in = subst (λ u. IsInMembers ms u (u + 1) n o label' t) (sym f) h;
    })
    | inr r ↦ inr (further _ _ (λ n u l s i. in_object i) r)
  ]

  within_elements : {es : Elements} {s : Tree} {up i k n up' : ℕ} {label' : Label} → IsInElements es up i k n up' label' s → (x : Extent) → label' ≡ Named x → Within (λ n u l r. IsInElements es up i k n u l r) n up' label' s
  within_elements (in_element h) x e = elim (within h x e) [ inl f ↦ absurd (let g = f.0 in cc) | inr r ↦ further _ _ (λ n u l s i. in_element i) r ]
  within_elements (in_later_element h) x e = further _ _ (λ n u l s i. in_later_element i) (within_elements h x e)

  within_members : {ms : Members} {s : Tree} {up k n up' : ℕ} {label' : Label} → IsInMembers ms up k n up' label' s → (x : Extent) → label' ≡ Named x → (up' ≡ up) ⊎ Within (λ n u l r. IsInMembers ms up k n u l r) n up' label' s
  within_members (in_member h) x e = elim (within h x e) [ inl f ↦ inl f.1 | inr r ↦ inr (further _ _ (λ n u l s i. in_member i) r) ]
  within_members (in_later_member h) x e = elim (within_members h x e) [ inl f ↦ inl f | inr r ↦ inr (further _ _ (λ n u l s i. in_later_member i) r) ]

-- ---- a number is that of one value

mutual
  pub below : {t s : Tree} {up k n up' : ℕ} {label label' : Label} → IsAt t up label k n up' label' s → n < k + size t
  below (itself {t = t}) = let p = size_positive t in omega arith
  below (in_array h) = let p = below_elements h in omega arith
  below (in_object h) = let p = below_members h in omega arith

  below_elements : {es : Elements} {s : Tree} {up i k n up' : ℕ} {label' : Label} → IsInElements es up i k n up' label' s → n < k + size_of_elements es
  below_elements (in_element h) = let p = below h in omega arith
  below_elements (in_later_element h) = let p = below_elements h in omega arith

  below_members : {ms : Members} {s : Tree} {up k n up' : ℕ} {label' : Label} → IsInMembers ms up k n up' label' s → n < k + size_of_members ms
  below_members (in_member h) = let p = below h in omega arith
  below_members (in_later_member h) = let p = below_members h in omega arith

from_elements : {es : Elements} {s : Tree} {up i k n up' : ℕ} {label' : Label} → IsInElements es up i k n up' label' s → k ≤ n
from_elements h = elim (under_elements h) [ inl f ↦ f.1 | inr f ↦ omega (arith, f.0, f.1) ]

pub from_members : {ms : Members} {s : Tree} {up k n up' : ℕ} {label' : Label} → IsInMembers ms up k n up' label' s → k ≤ n
from_members h = elim (under_members h) [ inl f ↦ f.1 | inr f ↦ omega (arith, f.0, f.1) ]

mutual
  pub one_at : {t s r : Tree} {up k n n' u u' : ℕ} {label l l' : Label} → IsAt t up label k n u l s → IsAt t up label k n' u' l' r → n ≡ n' → s ≡ r
  one_at itself itself e = refl
  one_at itself (in_array g) e = absurd (let p = from_elements g in omega arith)
  one_at itself (in_object g) e = absurd (let p = from_members g in omega arith)
  one_at (in_array h) itself e = absurd (let p = from_elements h in omega arith)
  one_at (in_object h) itself e = absurd (let p = from_members h in omega arith)
  one_at (in_array h) (in_array g) e = one_element h g e
  one_at (in_object h) (in_object g) e = one_member h g e

  one_element : {es : Elements} {s r : Tree} {up i k n n' u u' : ℕ} {l l' : Label} → IsInElements es up i k n u l s → IsInElements es up i k n' u' l' r → n ≡ n' → s ≡ r
  one_element (in_element h) (in_element g) e = one_at h g e
  one_element (in_element h) (in_later_element g) e = absurd (let p = below h in let q = from_elements g in omega arith)
  one_element (in_later_element h) (in_element g) e = absurd (let p = below g in let q = from_elements h in omega arith)
  one_element (in_later_element h) (in_later_element g) e = one_element h g e

  one_member : {ms : Members} {s r : Tree} {up k n n' u u' : ℕ} {l l' : Label} → IsInMembers ms up k n u l s → IsInMembers ms up k n' u' l' r → n ≡ n' → s ≡ r
  one_member (in_member h) (in_member g) e = one_at h g e
  one_member (in_member h) (in_later_member g) e = absurd (let p = below h in let q = from_members g in omega arith)
  one_member (in_later_member h) (in_member g) e = absurd (let p = below g in let q = from_members h in omega arith)
  one_member (in_later_member h) (in_later_member g) e = one_member h g e
