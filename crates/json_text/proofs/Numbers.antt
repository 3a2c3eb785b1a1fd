-- What the entry with a number says of the tree with that number.
use Rattle.json_text.proofs.Names.{◌≡◌, ℕ, ◌+◌, ◌<◌, ◌≤◌, List, [], ◌∷◌, ◌++◌, length, get_or, inl, inr, ◌⊎◌, refl, sym, ap, ◌∙◌, subst, arith}
use Rattle.json_text.proofs.Names.{append_assoc, length-append, get_or_at, append-nil, cases_lt, Tree, Leaf, Arr, Obj, Elements, NoElement, Element}
use Rattle.json_text.proofs.Names.{Members, NoMember, Member, entry_of, Label, Top, Index, Named, tape_of, tape_of_elements, tape_of_members, extent}
use Rattle.json_text.proofs.Names.{Stands, IsAt, itself, in_array, in_object, IsInElements, in_element, in_later_element, IsInMembers, in_member}
use Rattle.json_text.proofs.Names.{in_later_member, size, size_of_elements, size_of_members}
use Rattle.json_text.specs.declared.tape.Entry.{Entry}
use Rattle.json_text.proofs.Snoc.{length-tape}

-- the part of a tape from a number on
pub record Part (whole part : List Entry) (k n : ℕ) : Type 0 where
  pub front : List Entry
  pub back : List Entry
  pub is : whole ≡ front ++ (part ++ back)
  pub number : n ≡ k + length front

-- behind one more entry, before more entries, and behind more
part_under : (e : Entry) (whole part : List Entry) (k n : ℕ) → Part whole part (k + 1) n → Part (e ∷ whole) part k n
part_under e whole part k n p = record { front = e ∷ p.front; back = p.back; is = ap (λ l. e ∷ l) p.is; number = (let h = p.number in omega arith) }

part_before : (whole part more : List Entry) (k n : ℕ) → Part whole part k n → Part (whole ++ more) part k n
part_before whole part more k n p = record { front = p.front; back = p.back ++ more; is = ap (λ l. l ++ more) p.is ∙ simp append_assoc; number = p.number }

part_behind : (first whole part : List Entry) (k j n : ℕ) → Part whole part j n → j ≡ k + length first → Part (first ++ whole) part k n
part_behind first whole part k j n p e = record { front = first ++ p.front; back = p.back; is = ap (λ l. first ++ l) p.is ∙ sym (append_assoc first p.front (part ++ p.back)); number = (let h = p.number in let l = length-append first p.front in omega arith) }

mutual
  pub part_at : {t s : Tree} {up k n up' : ℕ} {label label' : Label} → IsAt t up label k n up' label' s → Part (tape_of t up label k) (tape_of s up' label' n) k n
  part_at (itself {t = t} {up = up} {k = k} {label = label}) = record { front = []; back = []; is = sym (append-nil (tape_of t up label k)); number = omega arith }
  part_at (in_array h) = part_under _ _ _ _ _ (part_in_elements h)
  part_at (in_object h) = part_under _ _ _ _ _ (part_in_members h)

  pub part_in_elements : {es : Elements} {s : Tree} {up i k n up' : ℕ} {label' : Label} → IsInElements es up i k n up' label' s → Part (tape_of_elements es up i k) (tape_of s up' label' n) k n
  part_in_elements (in_element {a = a} {es = es} {up = up} {i = i} {k = k} h) = part_before (tape_of a up (Index i) k) _ (tape_of_elements es up (i + 1) (k + size a)) k _ (part_at h)
  part_in_elements (in_later_element {a = a} {es = es} {up = up} {i = i} {k = k} h) =
      part_behind (tape_of a up (Index i) k) (tape_of_elements es up (i + 1) (k + size a)) _ k (k + size a) _ (part_in_elements h) (ap (λ m. k + m) (sym (length-tape a up (Index i) k)))

  pub part_in_members : {ms : Members} {s : Tree} {up k n up' : ℕ} {label' : Label} → IsInMembers ms up k n up' label' s → Part (tape_of_members ms up k) (tape_of s up' label' n) k n
  part_in_members (in_member {m = m} {a = a} {ms = ms} {up = up} {k = k} h) = part_before (tape_of a up (Named (extent m.source)) k) _ (tape_of_members ms up (k + size a)) k _ (part_at h)
  part_in_members (in_later_member {m = m} {a = a} {ms = ms} {up = up} {k = k} h) =
      part_behind (tape_of a up (Named (extent m.source)) k) (tape_of_members ms up (k + size a)) _ k (k + size a) _ (part_in_members h) (ap (λ j. k + j) (sym (length-tape a up (Named (extent m.source)) k)))

pub entry_first : (t : Tree) (up : ℕ) (label : Label) (k : ℕ) → (others : List Entry) × (tape_of t up label k ≡ entry_of t up label k ∷ others)
entry_first (Leaf s c) up label k = ([], refl)
entry_first _ up label k = (_, refl)

-- the entry with the number n is that of the tree with that number
pub entry_at : {t s : Tree} {n up : ℕ} {label : Label} (tape : List Entry) (d : Entry) → Stands tape t → IsAt t 0 Top 0 n up label s → get_or tape n d ≡ entry_of s up label n
entry_at {s = s} {n = n} {up = up} {label = label} tape d e h = grind (arith, part_at, entry_first, get_or_at)

-- a part of a part
mutual
  pub at_trans : {t s r : Tree} {up k n up' m up'' : ℕ} {label label' label'' : Label} → IsAt t up label k n up' label' s → IsAt s up' label' n m up'' label'' r → IsAt t up label k m up'' label'' r
  at_trans itself h = h
  at_trans (in_array g) h = in_array (elements_trans g h)
  at_trans (in_object g) h = in_object (members_trans g h)

  elements_trans : {es : Elements} {s r : Tree} {up i k n up' m up'' : ℕ} {label' label'' : Label} → IsInElements es up i k n up' label' s → IsAt s up' label' n m up'' label'' r → IsInElements es up i k m up'' label'' r
  elements_trans (in_element g) h = in_element (at_trans g h)
  elements_trans (in_later_element g) h = in_later_element (elements_trans g h)

  members_trans : {ms : Members} {s r : Tree} {up k n up' m up'' : ℕ} {label' label'' : Label} → IsInMembers ms up k n up' label' s → IsAt s up' label' n m up'' label'' r → IsInMembers ms up k m up'' label'' r
  members_trans (in_member g) h = in_member (at_trans g h)
  members_trans (in_later_member g) h = in_later_member (members_trans g h)

-- a tree that stands in such a way
pub record Somewhere (At : ℕ → Label → Tree → Type 0) : Type 0 where
  pub up' : ℕ
  pub label' : Label
  pub tree : Tree
  pub is_at : At up' label' tree

through : (At Bt : ℕ → Label → Tree → Type 0) → ((up : ℕ) (label : Label) (t : Tree) → At up label t → Bt up label t) → Somewhere At → Somewhere Bt
through At Bt f x = record { up' = x.up'; label' = x.label'; tree = x.tree; is_at = f x.up' x.label' x.tree x.is_at }

-- each number below the size is that of a tree
abbrev pub Numbered : (t : Tree) (up : ℕ) (label : Label) (k n : ℕ) → Type 0
Numbered t up label k n = Somewhere (λ up' label' s. IsAt t up label k n up' label' s)

first_or_later : (a b : ℕ) → a ≤ b → (a ≡ b) ⊎ (a + 1 ≤ b)
first_or_later a b h = elim (cases_lt a b) [ inl g ↦ inr (omega arith) | inr g ↦ inl (omega arith) ]

mutual
  pub numbered : (t : Tree) (up : ℕ) (label : Label) (k n : ℕ) → k ≤ n → n < k + size t → Numbered t up label k n
  numbered (Leaf s c) up label k n h l =
      let e : k ≡ n = omega arith in subst (Numbered (Leaf s c) up label k) e (record { up' = up; label' = label; tree = Leaf s c; is_at = itself })
  numbered (Arr s es) up label k n h l = elim (first_or_later k n h) [
    | inl e ↦ subst (Numbered (Arr s es) up label k) e (record { up' = up; label' = label; tree = Arr s es; is_at = itself })
    | inr g ↦ through _ _ (λ u m t i. in_array i) (numbered_elements es k 0 (k + 1) n g (omega arith))
  ]
  numbered (Obj s ms) up label k n h l = elim (first_or_later k n h) [
    | inl e ↦ subst (Numbered (Obj s ms) up label k) e (record { up' = up; label' = label; tree = Obj s ms; is_at = itself })
    | inr g ↦ through _ _ (λ u m t i. in_object i) (numbered_members ms k (k + 1) n g (omega arith))
  ]

  pub numbered_elements : (es : Elements) (up i k n : ℕ) → k ≤ n → n < k + size_of_elements es → Somewhere (λ up' label' s. IsInElements es up i k n up' label' s)
  numbered_elements NoElement up i k n h l = absurd (omega arith)
  numbered_elements (Element t es) up i k n h l = elim (cases_lt n (k + size t)) [
    | inl g ↦ through _ _ (λ u m s a. in_element a) (numbered t up (Index i) k n h g)
    | inr g ↦ through _ _ (λ u m s a. in_later_element a) (numbered_elements es up (i + 1) (k + size t) n g (omega arith))
  ]

  pub numbered_members : (ms : Members) (up k n : ℕ) → k ≤ n → n < k + size_of_members ms → Somewhere (λ up' label' s. IsInMembers ms up k n up' label' s)
  numbered_members NoMember up k n h l = absurd (omega arith)
  numbered_members (Member m t ms) up k n h l = elim (cases_lt n (k + size t)) [
    | inl g ↦ through _ _ (λ u l s a. in_member a) (numbered t up (Named (extent m.source)) k n h g)
    | inr g ↦ through _ _ (λ u l s a. in_later_member a) (numbered_members ms up (k + size t) n g (omega arith))
  ]
