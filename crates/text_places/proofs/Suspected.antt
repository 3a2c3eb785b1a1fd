-- The object of two names that mean the same is one that the walk suspects.
use Rattle.json_text.proofs.Names.{◌≡◌, ℕ, ◌+◌, ◌<◌, inl, inr, Bool, true, false, ◌||◌, List, refl, sym, ◌∙◌, subst, arith, bytes_decides, list_any, Source, Tree, Obj, Members, Member, IsText, Label, Named, extent, Stands, IsAt, itself, in_array, in_object, IsInMembers, in_member, in_later_member, is_same, repeats, meanings, IsObject}
use Rattle.std.specs.Str.{chars}
use Rattle.json_strings.specs.Spelling.{scalars_in, unquoted}
use Rattle.json_strings.proofs.Spelled.{scalars_at}
use Rattle.json_text.specs.Limits.{bytes_at}
use Rattle.json_text.specs.Meaning.{meaning}
use Rattle.json_text.specs.declared.tape.Entry.{Entry}
use Rattle.json_text.specs.declared.tape.Extent.{Extent}
use Rattle.json_text.proofs.Fits.{FitMembers, text_fits, part_fits}
use Rattle.json_text.proofs.Repeats.{or_right}
use Rattle.text_places.specs.Twins.{AreTwins}
use Rattle.text_places.proofs.Inside.{within, one_at, from_members}
use Rattle.text_places.proofs.Levels.{under_elements, under_members}

or_left : (a b : Bool) → a ≡ true → (a || b) ≡ true
or_left a b e = grind arith

abbrev meant : List ℕ → Extent → List ℕ
meant text x = scalars_in (chars (unquoted (bytes_at text x)))

-- a value of the object itself
own : {t s : Tree} {up k n up' : ℕ} {label label' : Label} → IsAt t up label k n up' label' s → up' < k → (label' ≡ label) × (n ≡ k)
own itself l = (refl, refl)
own (in_array h) l = elim (under_elements h) [ inl f ↦ absurd (omega (arith, f.0)) | inr f ↦ absurd (omega (arith, f.0)) ]
own (in_object h) l = elim (under_members h) [ inl f ↦ absurd (omega (arith, f.0)) | inr f ↦ absurd (omega (arith, f.0)) ]

named_is : (x y : Extent) → Named x ≡ Named y → x ≡ y
named_is x y e = cc

module _ (text : List ℕ) where
  head_means : (m : _) (v : Tree) (ms : Members) → FitMembers text (Member m v ms) → (x : Extent) → extent m.source ≡ x → meaning m.characters ≡ meant text x
  head_means m v ms f x e = sym (scalars_at text text x m.source m.characters refl (sym e) f.0 f.1)

  named_any : {ms : Members} {v : Tree} {up k n up' : ℕ} {label : Label} → IsInMembers ms up k n up' label v → FitMembers text ms → (x : Extent) → label ≡ Named x → up' < k → list_any (λ y. is_same y (meant text x)) (meanings ms) ≡ true
  named_any (in_member {m = m} {a = a} {ms = ms} h) f x e l = let o = own h l in
      or_left (is_same (meaning m.characters) (meant text x)) (list_any (λ y. is_same y (meant text x)) (meanings ms))
      ((bytes_decides (meaning m.characters) (meant text x)).1 (head_means m a ms f x (named_is (extent m.source) x (sym o.0 ∙ e))))
  named_any (in_later_member {m = m} {a = a} {ms = ms} h) f x e l =
      or_right (is_same (meaning m.characters) (meant text x)) (list_any (λ y. is_same y (meant text x)) (meanings ms)) (named_any h f.3 x e (omega arith))

  named_twice : {ms : Members} {v w : Tree} {up k i j u u' : ℕ} {la lb : Label} → IsInMembers ms up k i u la v → IsInMembers ms up k j u' lb w → FitMembers text ms → (x y : Extent) → la ≡ Named x → lb ≡ Named y → u < k → u' < k
      → i < j → meant text x ≡ meant text y → repeats (meanings ms) ≡ true
  named_twice (in_member h) (in_member g) f x y e d l l' less same = absurd (let o = own h l in let p = own g l' in omega (arith, o.1, p.1))
  named_twice (in_member {m = m} {a = a} {ms = ms} h) (in_later_member g) f x y e d l l' less same = let o = own h l in
      or_left (list_any (λ z. is_same z (meaning m.characters)) (meanings ms)) (repeats (meanings ms))
      (subst (λ means. list_any (λ z. is_same z means) (meanings ms) ≡ true) (sym same ∙ sym (head_means m a ms f x (named_is (extent m.source) x (sym o.0 ∙ e)))) (named_any g f.3 y d (omega arith)))
  named_twice (in_later_member {a = a} h) (in_member g) f x y e d l l' less same = absurd (let p = own g l' in let q = from_members h in omega (arith, p.1))
  named_twice (in_later_member {m = m} {a = a} {ms = ms} h) (in_later_member g) f x y e d l l' less same =
      or_right (list_any (λ z. is_same z (meaning m.characters)) (meanings ms)) (repeats (meanings ms)) (named_twice h g f.3 x y e d (omega arith) (omega arith) less same)

members_same : (s s' : Source) (ms ms' : Members) → Obj s ms ≡ Obj s' ms' → ms ≡ ms'
members_same s s' ms ms' e = cc

-- where no object of that number repeats a name, none has twins
pub twins_repeat : (text : List ℕ) (tape : List Entry) (t : Tree) → IsText text t → Stands tape t → (m n a b : ℕ) (w : AreTwins text t m n a b) → ((ms : Members) → IsObject text tape w.up ms → repeats (meanings ms) ≡ false) → ⊥
twins_repeat text tape t h stands m n a b w apart = elim (within w.one.is_at (extent w.one.name) refl) [
  | inl f ↦ (let g = f.0 in cc)
  | inr r ↦ elim (within w.other.is_at (extent w.other.name) refl) [
    | inl f ↦ (let g = f.0 in cc)
    | inr r' ↦
        let same = members_same r'.source r.source r'.members r.members (one_at r'.is_at r.is_at refl) in
        let x = extent w.one.name in let y = extent w.other.name in
        let one = scalars_at text text x w.one.name w.one.characters refl refl w.one.stands w.one.is_string in
        let other = scalars_at text text y w.other.name w.other.characters refl refl w.other.stands w.other.is_string in
        let twice = named_twice text r.is_in (subst (λ ms. IsInMembers ms w.up (w.up + 1) n w.up (Named y) w.other.value) same r'.is_in) (part_fits r.is_at text (text_fits text t h)).1 x y refl refl (omega arith) (omega arith)
        w.behind (one ∙ sym w.one.meant ∙ w.other.meant ∙ sym other) in
        let none = apart r.members (record { tree = t; source = r.source; up = r.up'; label = r.label'; is_text = h; stands = stands; is_at = r.is_at }) in
        let z = sym none ∙ twice in cc
  ]
]
