-- A name of an entry is one of an object's names, and back.
use Rattle.json_text.proofs.Names.{◌≡◌, ℕ, ◌+◌, ◌⊎◌, inl, inr, Source, Name, Tree, Obj, Elements, Members, Label, Named, extent, IsAt, itself}
use Rattle.json_text.proofs.Names.{in_array, in_object, IsInElements, in_element, in_later_element, IsInMembers, in_member, in_later_member, size}
use Rattle.json_text.proofs.Names.{IsString}
use Rattle.json_text.specs.declared.tape.Extent.{Extent}
use Rattle.json_text.specs.Parts.{IsNameOf, first_name, later_name}
use Rattle.json_text.proofs.Fits.{Lies, FitMembers}

-- an object at a place of such a kind, one of whose names has this extent
pub record HolderBy (At : ℕ → ℕ → Label → Tree → Type 0) (x : Extent) : Type 0 where
  pub source : Source
  pub members : Members
  pub name : Name
  pub number : ℕ
  pub up' : ℕ
  pub label' : Label
  pub is_at : At number up' label' (Obj source members)
  pub has : IsNameOf members name
  pub is : x ≡ extent name.source

abbrev pub Holder : (t : Tree) (up : ℕ) (label : Label) (k : ℕ) → Extent → Type 0
Holder t up label k = HolderBy (λ n up' label' s. IsAt t up label k n up' label' s)

further : {x : Extent} (At Bt : ℕ → ℕ → Label → Tree → Type 0) → ((n up : ℕ) (label : Label) (s : Tree) → At n up label s → Bt n up label s) → HolderBy At x → HolderBy Bt x
further At Bt f r = record { source = r.source; members = r.members; name = r.name; number = r.number; up' = r.up'; label' = r.label'; is_at = f r.number r.up' r.label' (Obj r.source r.members) r.is_at; has = r.has; is = r.is }

record Own (ms : Members) (x : Extent) : Type 0 where
  name : Name
  has : IsNameOf ms name
  is : x ≡ extent name.source

named_same : (x y : Extent) → Named x ≡ Named y → y ≡ x
named_same x y e = cc

mutual
  pub holder : {t s : Tree} {up k n up' : ℕ} {label label' : Label} → IsAt t up label k n up' label' s → (x : Extent) → label' ≡ Named x → (label ≡ Named x) ⊎ Holder t up label k x
  holder itself x e = inl e
  holder (in_array h) x e = inr (further _ _ (λ n u l s i. in_array i) (holder_in h x e))
  holder (in_object {s = s} {ms = ms} h) x e = elim (holder_among h x e) [
    | inl o ↦ inr (record { source = s; members = ms; name = o.name; number = _; up' = _; label' = _; is_at = itself; has = o.has; is = o.is })
    | inr r ↦ inr (further _ _ (λ n u l s i. in_object i) r)
  ]

  holder_in : {es : Elements} {s : Tree} {up i k n up' : ℕ} {label' : Label} → IsInElements es up i k n up' label' s → (x : Extent) → label' ≡ Named x → HolderBy (λ n up' label' s. IsInElements es up i k n up' label' s) x
  holder_in (in_element h) x e = elim (holder h x e) [ inl f ↦ absurd (cc) | inr r ↦ further _ _ (λ n u l s i. in_element i) r ]
  holder_in (in_later_element h) x e = further _ _ (λ n u l s i. in_later_element i) (holder_in h x e)

  holder_among : {ms : Members} {s : Tree} {up k n up' : ℕ} {label' : Label} → IsInMembers ms up k n up' label' s → (x : Extent) → label' ≡ Named x → Own ms x ⊎ HolderBy (λ n up' label' s. IsInMembers ms up k n up' label' s) x
  holder_among (in_member {m = m} h) x e = elim (holder h x e) [
    | inl f ↦ inl (record { name = m; has = first_name; is = named_same (extent m.source) x f })
    | inr r ↦ inr (further _ _ (λ n u l s i. in_member i) r)
  ]
  holder_among (in_later_member h) x e = elim (holder_among h x e) [
    | inl o ↦ inl (record { name = o.name; has = later_name o.has; is = o.is })
    | inr r ↦ inr (further _ _ (λ n u l s i. in_later_member i) r)
  ]

-- the member with this name
pub record Held (ms : Members) (up k : ℕ) (n : Name) : Type 0 where
  pub number : ℕ
  pub value : Tree
  pub is_in : IsInMembers ms up k number up (Named (extent n.source)) value

pub held : {ms : Members} {n : Name} → IsNameOf ms n → (up k : ℕ) → Held ms up k n
held (first_name {n = n} {t = t}) up k = record { number = k; value = t; is_in = in_member itself }
held (later_name {m = m} {t = t} h) up k = let r = held h up (k + size t) in record { number = r.number; value = r.value; is_in = in_later_member r.is_in }

pub name_fits : {ms : Members} {n : Name} → IsNameOf ms n → (text : _) → FitMembers text ms → Lies text n.source × IsString n.source.bytes n.characters
name_fits first_name text f = (f.0, f.1)
name_fits (later_name h) text f = name_fits h text f.3
