-- Names that come again, in the objects of the entries and in the parts of the tree.
use Rattle.json_text.proofs.Names.{◌≡◌, ℕ, zero, suc, ◌+◌, ◌<◌, ◌≤◌, inl, inr, Bool, true, false, ◌||◌, List, length, get_or, Some, refl, sym, ap}
use Rattle.json_text.proofs.Names.{◌∙◌, subst, arith, list_any, bytes_decides, cases_lt, Name, Tree, Obj, Members, NoMember, Member, Means, HasLone}
use Rattle.json_text.proofs.Names.{IsJson, StandsForAll, Label, Top, Stands, IsAt, member_count, kind_of, IsText, is_same, repeats, meanings}
use Rattle.json_text.proofs.Names.{IsObject}
use Rattle.std.specs.Prelude.{slice_get}
use Rattle.json_text.specs.Meaning.{meaning}
use Rattle.json_text.specs.Parts.{IsNameOf, first_name, later_name}
use Rattle.json_text.specs.Verdict.{names, HasTwins, Applies}
use Rattle.json_text.specs.declared.tape.Kind.TheVariants as kinds
use Rattle.json_text.specs.declared.tape.Entry.{Entry}
use Rattle.json_text.specs.declared.tape.TextFault.TheVariants.{LoneSurrogate, DuplicateName}
use Rattle.json_text.proofs.Meanings.{meaning_is}
use Rattle.json_text.proofs.Repeats.{or_right}
use Rattle.json_text.proofs.LoneChars.{means_unless}
use Rattle.json_text.proofs.Numbers.{entry_at}
use Rattle.json_text.proofs.Parts.{part_of_at, placed}
use Rattle.json_text.proofs.Judging.{part_with, number_below}
use Rattle.json_text.proofs.Entries.{kind_is}
use Rattle.json_text.proofs.One.{no_object_kind}

same_is : (x y : List ℕ) → is_same x y ≡ true → x ≡ y
same_is x y h = (bytes_decides x y).0 h

is_itself : (x y : List ℕ) → x ≡ y → is_same x y ≡ true
is_itself x y e = (bytes_decides x y).1 e

-- a name among these that means x
record Meant (ms : Members) (x : List ℕ) : Type 0 where
  number : ℕ
  name : Name
  stands : slice_get (names ms) number ≡ Some name
  has : IsNameOf ms name
  means : meaning name.characters ≡ x

meant_at : (ms : Members) (x : List ℕ) → list_any (λ y. is_same y x) (meanings ms) ≡ true → Meant ms x
meant_at NoMember x h = absurd (cc)
meant_at (Member m v ms) x h = go (is_same (meaning m.characters) x) refl h (λ k. meant_at ms x k) where
  go : (t : Bool) → is_same (meaning m.characters) x ≡ t → (t || list_any (λ y. is_same y x) (meanings ms)) ≡ true → (list_any (λ y. is_same y x) (meanings ms) ≡ true → Meant ms x) → Meant (Member m v ms) x
  go true e k ih = record { number = 0; name = m; stands = refl; has = first_name; means = same_is (meaning m.characters) x e }
  go false e k ih = let r = ih k in record { number = suc r.number; name = r.name; stands = r.stands; has = later_name r.has; means = r.means }

at_meant : (ms : Members) (x : List ℕ) (k : ℕ) (n : Name) → slice_get (names ms) k ≡ Some n → meaning n.characters ≡ x → list_any (λ y. is_same y x) (meanings ms) ≡ true
at_meant (Member m v ms) x zero n e f = grind (arith, is_itself)
at_meant (Member m v ms) x (suc k) n e f = or_right (is_same (meaning m.characters) x) (list_any (λ y. is_same y x) (meanings ms)) (at_meant ms x k n e f)
at_meant _ x _ n e f = absurd (cc)

-- the names that come again are twins, where each has a meaning
abbrev AreTwins : Members → Type 0
AreTwins ms = (j k : ℕ) × (m n : Name) × (means : List ℕ) × (j < k) × (slice_get (names ms) j ≡ Some m) × (slice_get (names ms) k ≡ Some n) × Means m.characters means × Means n.characters means

pub twins_of : (ms : Members) → ((n : Name) → IsNameOf ms n → HasLone n.characters → ⊥) → repeats (meanings ms) ≡ true → AreTwins ms
twins_of NoMember all h = absurd (cc)
twins_of (Member m v ms) all h = go (list_any (λ y. is_same y (meaning m.characters)) (meanings ms)) refl h (λ k. twins_of ms (λ n i. all n (later_name i)) k)
  where
    go : (t : Bool) → list_any (λ y. is_same y (meaning m.characters)) (meanings ms) ≡ t → (t || repeats (meanings ms)) ≡ true → (repeats (meanings ms) ≡ true → AreTwins ms) → AreTwins (Member m v ms)
    go true e k ih = let r = meant_at ms (meaning m.characters) e in
        (0, suc r.number, m, r.name, meaning m.characters, omega arith, refl, r.stands, means_unless m.characters (all m first_name), subst (Means r.name.characters) r.means (means_unless r.name.characters (all r.name (later_name r.has))))
    go false e k ih = let (i, j, n, o, vs, l, a, b, p, q) = ih k in (suc i, suc j, n, o, vs, omega arith, a, b, p, q)

twins_repeat : (ms : Members) (j k : ℕ) (m n : Name) (vs : List ℕ) → j < k → slice_get (names ms) j ≡ Some m → slice_get (names ms) k ≡ Some n → meaning m.characters ≡ vs → meaning n.characters ≡ vs → repeats (meanings ms) ≡ true
twins_repeat (Member o v ms) j zero m n vs l e f p q = absurd (omega arith)
twins_repeat (Member o v ms) zero (suc k) m n vs l e f p q = let g : o ≡ m = cc in
    let t = at_meant ms (meaning o.characters) k n f (q ∙ sym p ∙ sym (ap (λ (y : Name). meaning y.characters) g)) in rw t refl
twins_repeat (Member o v ms) (suc j) (suc k) m n vs l e f p q = grind (arith, twins_repeat ms j k m n vs (omega arith) e f p q)
twins_repeat _ _ k m n vs l e f p q = absurd (cc)

few_names : (ms : Members) → member_count ms ≤ 1 → repeats (meanings ms) ≡ false
few_names (Member m v (Member n w ms)) h = absurd (omega arith)
few_names _ h = refl

-- the entry of an object is that of its members
pub object_of : (text : List ℕ) (tape : List Entry) (t : Tree) → IsText text t → Stands tape t → (n : ℕ) (d : Entry) → n < length tape → (get_or tape n d).kind ≡ kinds.Object → (ms : Members) × IsObject text tape n ms
object_of text tape t h s n d l k = let p = part_with tape t n s l in
    go p.tree p.up' p.label' p.is_at (sym (kind_is p.tree p.up' p.label' n) ∙ sym (ap (λ (e : Entry). e.kind) (entry_at tape d s p.is_at)) ∙ k)
  where
    go : (part : Tree) (up : ℕ) (label : Label) → IsAt t 0 Top 0 n up label part → kind_of part ≡ kinds.Object → (ms : Members) × IsObject text tape n ms
    go part up label a k = grind (arith, no_object_kind)

module _ (text : List ℕ) (tape : List Entry) (json : IsJson text) (stands : StandsForAll text tape) where
  pub object_at : (n : ℕ) (d : Entry) → n < length tape → (get_or tape n d).kind ≡ kinds.Object → (ms : Members) × IsObject text tape n ms
  object_at n d l k = object_of text tape json.0 json.1 (stands json.0 json.1) n d l k

  -- an entry that is not that of an object of two members or more
  pub too_few : (n : ℕ) (d : Entry) → (((get_or tape n d).kind ≡ kinds.Object) × (1 < (get_or tape n d).children) → ⊥) → (ms : Members) → IsObject text tape n ms → repeats (meanings ms) ≡ false
  too_few n d h ms o =
      let e = entry_at tape d o.stands o.is_at in let c : (get_or tape n d).children ≡ member_count ms = ap (λ (x : Entry). x.children) e in
      let k : (get_or tape n d).kind ≡ kinds.Object = ap (λ (x : Entry). x.kind) e in
      few_names ms (elim (cases_lt 1 (member_count ms)) [ inl g ↦ absurd (h (k, omega arith)) | inr g ↦ g ])

  pub duplicate_found : (Applies text LoneSurrogate → ⊥) → (n : ℕ) (ms : Members) → IsObject text tape n ms → repeats (meanings ms) ≡ true → Applies text DuplicateName
  duplicate_found paired n ms o h = search (arith, part_of_at, twins_of)

  pub duplicate_none : ((n : ℕ) (ms : Members) → n < length tape → IsObject text tape n ms → repeats (meanings ms) ≡ false) → Applies text DuplicateName → ⊥
  duplicate_none none (t, part, h, p, q) = let a = placed p in go part a.number a.up a.label a.is_at q where
    go : (part : Tree) (n up : ℕ) (label : Label) → IsAt t 0 Top 0 n up label part → HasTwins part → ⊥
    go (Obj s ms) n up label a (j, k, m, m', vs, l, e, f, x, y) =
        let o : IsObject text tape n ms = record { tree = t; source = s; up = up; label = label; is_text = h; stands = stands t h; is_at = a } in
        let r = twins_repeat ms j k m m' vs l e f (meaning_is x) (meaning_is y) in
        let z = none n ms (number_below tape t (Obj s ms) n up label (stands t h) a) o in cc
    go _ n up label a q = absurd q

-- of the objects below a number none has a name that comes again, nor has that one
abbrev pub NoneBelow : List ℕ → List Entry → ℕ → Type 0
NoneBelow text tape n = (i : ℕ) (ms : Members) → i < n → IsObject text tape i ms → repeats (meanings ms) ≡ false

pub one_more : (text : List ℕ) (tape : List Entry) (n : ℕ) → NoneBelow text tape n → ((ms : Members) → IsObject text tape n ms → repeats (meanings ms) ≡ false) → NoneBelow text tape (n + 1)
one_more text tape n before this i ms l o = grind arith
