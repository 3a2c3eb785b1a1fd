-- In how many others a value lies, by its number; and that a deep tree has a container that lies in many.
use Rattle.json_text.proofs.Names.{◌≡◌, ℕ, zero, suc, ◌+◌, ◌<◌, ◌≤◌, ◌⊎◌, inl, inr, refl, sym, ap, ◌∙◌, subst, arith, max, cases_lt, Tree, Leaf, Arr, Obj, Elements, NoElement, Element, Members, NoMember, Member, Label, Top, Index, Named, extent, tape_of, IsAt, itself, in_array, in_object, IsInElements, in_element, in_later_element, IsInMembers, in_member, in_later_member, size, nothing_there}
use Rattle.json_text.specs.declared.tape.Entry.{Entry}
use Rattle.json_text.specs.Verdict.{depth, depth_of_elements, depth_of_members}
use Rattle.json_text.proofs.Entries.{up_is}
use Rattle.json_text.proofs.Numbers.{entry_at, at_trans}
use Rattle.text_places.specs.Levels.{LiesIn, outermost, inside}
use Rattle.text_places.specs.Firsts.{IsContainer}

-- the value around one has a lower number

abbrev pub Under : (up k n up' : ℕ) → Type 0
Under up k n up' = ((up' ≡ up) × (k ≤ n)) ⊎ ((k ≤ up') × (up' < n))

mutual
  pub under : {t s : Tree} {up k n up' : ℕ} {label label' : Label} → IsAt t up label k n up' label' s → ((up' ≡ up) × (k ≡ n)) ⊎ ((k ≤ up') × (up' < n))
  under itself = inl (refl, refl)
  under (in_array h) = elim (under_elements h) [ inl f ↦ inr (omega (arith, f.0), omega (arith, f.0, f.1)) | inr f ↦ inr (omega (arith, f.0), f.1) ]
  under (in_object h) = elim (under_members h) [ inl f ↦ inr (omega (arith, f.0), omega (arith, f.0, f.1)) | inr f ↦ inr (omega (arith, f.0), f.1) ]

  pub under_elements : {es : Elements} {s : Tree} {up i k n up' : ℕ} {label' : Label} → IsInElements es up i k n up' label' s → Under up k n up'
  under_elements (in_element h) = elim (under h) [ inl f ↦ inl (f.0, omega (arith, f.1)) | inr f ↦ inr f ]
  under_elements (in_later_element h) = elim (under_elements h) [ inl f ↦ inl (f.0, omega (arith, f.1)) | inr f ↦ inr (omega (arith, f.0), f.1) ]

  pub under_members : {ms : Members} {s : Tree} {up k n up' : ℕ} {label' : Label} → IsInMembers ms up k n up' label' s → Under up k n up'
  under_members (in_member h) = elim (under h) [ inl f ↦ inl (f.0, omega (arith, f.1)) | inr f ↦ inr f ]
  under_members (in_later_member h) = elim (under_members h) [ inl f ↦ inl (f.0, omega (arith, f.1)) | inr f ↦ inr (omega (arith, f.0), f.1) ]

pub up_below : {t s : Tree} {n up : ℕ} {label : Label} → IsAt t 0 Top 0 n up label s → 0 < n → up < n
up_below h p = elim (under h) [ inl f ↦ absurd (omega (arith, f.1)) | inr f ↦ f.1 ]

pub up_first : {t s : Tree} {up : ℕ} {label : Label} → IsAt t 0 Top 0 0 up label s → up ≡ 0
up_first h = elim (under h) [ inl f ↦ f.0 | inr f ↦ absurd (omega (arith, f.1)) ]

-- there is one such number, and one level
one_up : (t s r : Tree) (n up up' : ℕ) (label label' : Label) → IsAt t 0 Top 0 n up label s → IsAt t 0 Top 0 n up' label' r → up ≡ up'
one_up t s r n up up' label label' h g =
    sym (up_is s up label n) ∙ ap (λ (e : Entry). e.up) (sym (entry_at (tape_of t 0 Top 0) nothing_there refl h) ∙ entry_at (tape_of t 0 Top 0) nothing_there refl g) ∙ up_is r up' label' n

pub one_level : {t : Tree} {n a b : ℕ} → LiesIn t n a → LiesIn t n b → a ≡ b
one_level outermost outermost = refl
one_level outermost (inside p h g) = absurd (omega arith)
one_level (inside p h g) outermost = absurd (omega arith)
one_level {t = t} {n = n} (inside {up = up} {label = la} {part = s} p h g) (inside {up = up'} {level = l'} {label = la'} {part = r} p' h' g') = ap suc (one_level g (subst (λ u. LiesIn t u l') (sym (one_up t s r n up up' la la' h h')) g'))

-- a container that lies in so many others
pub record Deep (whole : Tree) (level : ℕ) : Type 0 where
  pub number : ℕ
  pub up : ℕ
  pub label : Label
  pub part : Tree
  pub is_at : IsAt whole 0 Top 0 number up label part
  pub is_container : IsContainer part
  pub lies : LiesIn whole number level

deep_as : (whole : Tree) (a b : ℕ) → a ≡ b → Deep whole a → Deep whole b
deep_as whole a b e d = subst (Deep whole) e d

max_cases : (m a b : ℕ) → m < max a b → (m < a) ⊎ (m < b)
max_cases m a b h = elim (cases_lt m a) [ inl f ↦ inl f | inr f ↦ inr (omega arith) ]

mutual
  deep_in : (s whole : Tree) (n up : ℕ) (label : Label) → IsAt whole 0 Top 0 n up label s → (l : ℕ) → LiesIn whole n l → (m : ℕ) → m < depth s → Deep whole (l + m)
  deep_in (Leaf src c) whole n up label h l g m d = absurd (omega arith)
  deep_in (Arr src es) whole n up label h l g zero d = record { number = n; up = up; label = label; part = Arr src es; is_at = h; is_container = tt; lies = subst (LiesIn whole n) (omega arith) g }
  deep_in (Arr src es) whole n up label h l g (suc m) d =
      deep_as whole (suc l + m) (l + suc m) (omega arith) (deep_elements es whole n 0 (n + 1) (λ k u la s i. at_trans h (in_array i)) (omega arith) l g m (omega arith))
  deep_in (Obj src ms) whole n up label h l g zero d = record { number = n; up = up; label = label; part = Obj src ms; is_at = h; is_container = tt; lies = subst (LiesIn whole n) (omega arith) g }
  deep_in (Obj src ms) whole n up label h l g (suc m) d =
      deep_as whole (suc l + m) (l + suc m) (omega arith) (deep_members ms whole n (n + 1) (λ k u la s i. at_trans h (in_object i)) (omega arith) l g m (omega arith))

  deep_elements : (es : Elements) (whole : Tree) (n i k : ℕ) → ((k' u : ℕ) (la : Label) (s : Tree) → IsInElements es n i k k' u la s → IsAt whole 0 Top 0 k' u la s) → 0 < k → (l : ℕ) → LiesIn whole n l → (m : ℕ) → m < depth_of_elements es → Deep whole (suc l + m)
  deep_elements NoElement whole n i k f p l g m d = absurd (omega arith)
  deep_elements (Element t es) whole n i k f p l g m d = elim (max_cases m (depth t) (depth_of_elements es) d) [
    | inl x ↦ let here = f k n (Index i) t (in_element itself) in deep_in t whole k n (Index i) here (suc l) (inside p here g) m x
    | inr x ↦ deep_elements es whole n (i + 1) (k + size t) (λ k' u la s j. f k' u la s (in_later_element j)) (omega arith) l g m x
  ]

  deep_members : (ms : Members) (whole : Tree) (n k : ℕ) → ((k' u : ℕ) (la : Label) (s : Tree) → IsInMembers ms n k k' u la s → IsAt whole 0 Top 0 k' u la s) → 0 < k → (l : ℕ) → LiesIn whole n l → (m : ℕ) → m < depth_of_members ms → Deep whole (suc l + m)
  deep_members NoMember whole n k f p l g m d = absurd (omega arith)
  deep_members (Member name t ms) whole n k f p l g m d = elim (max_cases m (depth t) (depth_of_members ms) d) [
    | inl x ↦ let here = f k n (Named (extent name.source)) t (in_member itself) in deep_in t whole k n (Named (extent name.source)) here (suc l) (inside p here g) m x
    | inr x ↦ deep_members ms whole n (k + size t) (λ k' u la s j. f k' u la s (in_later_member j)) (omega arith) l g m x
  ]

pub deep_found : (t : Tree) (m : ℕ) → m < depth t → Deep t m
deep_found t m d = deep_as t (0 + m) m (omega arith) (deep_in t t 0 0 Top itself 0 outermost m d)
