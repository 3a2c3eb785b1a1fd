-- The children of a node lie side by side, from the number behind its own to its end.
use Rattle.json_text.proofs.Names.{◌≡◌, ℕ, suc, ◌+◌, ◌-◌, ◌<◌, ◌≤◌, ◌⊎◌, inl, inr, ltb, true, false, List, [], ◌∷◌, get_or, refl, sym, ap, ◌∙◌, subst}
use Rattle.json_text.proofs.Names.{arith, All, nat_tests, common_steps, get_or_default, Tree, Leaf, Arr, Obj, Elements, NoElement, Element, Members}
use Rattle.json_text.proofs.Names.{NoMember, Member, Node, Step, size, size_of_elements, size_of_members, children, children_of, elements_from}
use Rattle.json_text.proofs.Names.{members_from}
use Rattle.json_text.specs.Nodes.{visit}
use Rattle.json_tape.specs.Document.{Doc, Spot, IsDocument, count, node_at, later, seen, counting, spots, spot_at}
use Rattle.json_tape.specs.Siblings.{AreBetween, siblings, numbers_of, numbered}
use Rattle.json_text.specs.declared.tape.Entry.{Entry}
use Rattle.json_text.proofs.Entries.{size_positive}
use Rattle.json_text.proofs.MembersLeft.{no_entry}
use Rattle.json_tape.proofs.Spots.{NextIn, end_of}
use Rattle.json_tape.proofs.Readers.{good, spot_is, number_is, after_is, after_in, visit_of, child_is, childless_is, none_there, shown}

elements_between : (way : List Step) (i k : ℕ) (es : Elements) → AreBetween (elements_from way i k es) k (k + size_of_elements es)
elements_between way i k NoElement = omega arith
elements_between way i k (Element t es) = grind (arith, elements_between way (suc i) (k + size t) es)

members_between : (way : List Step) (k : ℕ) (ms : Members) → AreBetween (members_from way k ms) k (k + size_of_members ms)
members_between way k NoMember = omega arith
members_between way k (Member n t ms) = grind (arith, members_between way (k + size t) ms)

children_between : (way : List Step) (k : ℕ) (t : Tree) → AreBetween (children_of way k t) (suc k) (k + size t)
children_between way k (Leaf s c) = omega arith
children_between way k (Arr s es) = let end : suc k + size_of_elements es ≡ k + suc (size_of_elements es) = omega arith in subst (AreBetween (elements_from way 0 (suc k) es) (suc k)) end (elements_between way 0 (suc k) es)
children_between way k (Obj s ms) = let end : suc k + size_of_members ms ≡ k + suc (size_of_members ms) = omega arith in subst (AreBetween (members_from way (suc k) ms) (suc k)) end (members_between way (suc k) ms)

up_to : (ns : List Node) (k end : ℕ) → AreBetween ns k end → k ≤ end
up_to [] k end b = omega (arith, b)
up_to (n ∷ ns) k end b = let h = up_to ns (k + size n.tree) end b.1 in omega (arith, h)

below : (n : Node) (ns : List Node) (k end : ℕ) → AreBetween (n ∷ ns) k end → k < end
below n ns k end b = let h = up_to ns (k + size n.tree) end b.1 in let z = size_positive n.tree in omega (arith, h, z)

-- the first of them, and where there is none
some_left : (d : Doc) (k end : ℕ) → k < end → siblings d k end ≡ node_at d k ∷ later d k
some_left d k end h = let t : ltb k end ≡ true = grind (arith, nat_tests) in rw t refl

pub none_left : (d : Doc) (k end : ℕ) → end ≤ k → siblings d k end ≡ []
none_left d k end h = let t : ltb k end ≡ false = grind (arith, nat_tests) in rw t refl

cases_children : (n : ℕ) → (n ≡ 0) ⊎ (n ≡ 0 → ⊥)
cases_children n = grind arith

module _ (d : Doc) (s : IsDocument d) where
  -- the later siblings of a node are those from its end on
  later_are : (k end : ℕ) → k < count d → AreBetween (later d k) (k + size (node_at d k).tree) end → later d k ≡ siblings d (k + size (node_at d k).tree) end
  unfolding node_at later
  later_are k end h b = let g = good d s k h in let r = spot_is d s k g in
      let e : k + size (spot_at d k).node.tree ≡ end_of g.spot = ap (λ (x : Spot). k + size x.node.tree) r ∙ omega (arith, g.number) in
      go g.spot.up g.spot.later (k + size (spot_at d k).node.tree) (ap (λ (x : Spot). x.later) r) b (subst (λ m. NextIn (spots d) (none_there d) m g.spot.up g.spot.later) (sym e) g.next)
    where
      go : (up : ℕ) (ns : List Node) (m : ℕ) → (spot_at d k).later ≡ ns → AreBetween (spot_at d k).later m end → NextIn (spots d) (none_there d) m up ns → (spot_at d k).later ≡ siblings d m end
      go up ns m q b n = grind (arith, none_left, some_left, below)

  pub all_between : (n : ℕ) → n < count d → AreBetween (children (node_at d n)) (n + 1) (n + size (node_at d n).tree)
  all_between n h = let x = node_at d n in let m = number_is d s n h in let p : suc x.number ≡ n + 1 = omega (arith, m) in
      let q : x.number + size x.tree ≡ n + size x.tree = omega (arith, m) in rw p at (rw q at (children_between x.way_up x.number x.tree))

  -- all children of a node
  pub all_left : (n : ℕ) → n < count d → siblings d (n + 1) (n + size (node_at d n).tree) ≡ children (node_at d n)
  unfolding count
  all_left n h = elim (cases_children e.children) [
    | inl z ↦
        let none = childless_is d s n h e q z in let b' = rw none at b in
        rw none (none_left d (n + 1) (n + size (node_at d n).tree) (omega (arith, b')))
    | inr z ↦
        let some = child_is d s n h e q z in
        some_left d (n + 1) (n + size (node_at d n).tree) (below (node_at d (n + 1)) (later d (n + 1)) (n + 1) (n + size (node_at d n).tree) (rw (← some) at b)) ∙ some
  ] where
    e : Entry
    e = get_or d.entries n no_entry

    q : e ≡ get_or d.entries n e
    q = get_or_default d.entries n no_entry e h

    b : AreBetween (children (node_at d n)) (n + 1) (n + size (node_at d n).tree)
    b = all_between n h

  -- the first child that is left, and those behind it
  pub next_left : (k end : ℕ) → k < end → k < count d → AreBetween (siblings d k end) k end
      → (siblings d k end ≡ node_at d k ∷ siblings d (k + size (node_at d k).tree) end) × AreBetween (siblings d (k + size (node_at d k).tree) end) (k + size (node_at d k).tree) end
  next_left k end l h b = grind (arith, some_left, later_are)

  -- the numbers of those that are left are theirs
  pub numbers_are : (ns : List Node) (k end : ℕ) → siblings d k end ≡ ns → AreBetween ns k end → end ≤ count d
      → (numbered d (numbers_of ns) ≡ ns) × All (λ id. id.0 < count d) (numbers_of ns)
  numbers_are [] k end e b h = (refl, grind (arith, common_steps))
  numbers_are (n ∷ ms) k end e b h = let l = below n ms k end b in let i : k < count d = omega arith in
      let f = sym (some_left d k end l) ∙ e in let here : node_at d k ≡ n = ap (λ ns. first_or ns n) f in
      let x = next_left k end l i (subst (λ ns. AreBetween ns k end) (sym e) b) in
      let more = numbers_are ms (k + size n.tree) end (ap (λ y. siblings d (k + size y.tree) end) (sym here) ∙ ap rest_of (sym x.0 ∙ e)) b.1 h in
      (ap (λ ys. node_at d n.number ∷ ys) more.0 ∙ ap (λ y. y ∷ ms) (ap (node_at d) b.0 ∙ here), grind (arith, common_steps, more.1, b.0, i))
    where
      first_or : List Node → Node → Node
      first_or [] y = y
      first_or (x ∷ xs) y = x

      rest_of : List Node → List Node
      rest_of [] = []
      rest_of (x ∷ xs) = xs

-- where a node ends, by its entry in the tape that the document's fields hold
pub end_is : (i d : Doc) → i ≡ d → IsDocument d → (n : ℕ) → n < count d → (end : ℕ) → ((e : Entry) → e ≡ get_or i.entries n e → end ≡ e.after)
    → (end ≡ n + size (node_at d n).tree) × (end ≤ count d)
unfolding count
end_is i d v s n h end read = let e = get_or d.entries n no_entry in let q : e ≡ get_or d.entries n e = get_or_default d.entries n no_entry e h in
    let t = read e (shown d i (sym v) n e q) in let a = after_in d s n h e q in (t ∙ after_is d s n h e q, rw (← t) at a)

pub visit_to : (d : Doc) → IsDocument d → (n : ℕ) → n < count d → (end : ℕ) → end ≡ n + size (node_at d n).tree → seen d (counting n (end - n)) ≡ visit (node_at d n)
unfolding count
visit_to d s n h end q = let e = get_or d.entries n no_entry in let f : e ≡ get_or d.entries n e = get_or_default d.entries n no_entry e h in
    rw (q, ← after_is d s n h e f) (visit_of d s n h e f)

-- all children of a node, from the number behind its own to its end
pub all_there : (d : Doc) (s : IsDocument d) (n : ℕ) → n < count d → (end : ℕ) → end ≡ n + size (node_at d n).tree
    → AreBetween (siblings d (n + 1) end) (n + 1) end
    × (end ≤ count d → numbered d (numbers_of (siblings d (n + 1) end)) ≡ children (node_at d n))
    × (end ≤ count d → All (λ id. id.0 < count d) (numbers_of (siblings d (n + 1) end)))
all_there d s n h end q = let a : siblings d (n + 1) end ≡ children (node_at d n) = rw q (all_left d s n h) in
    let b : AreBetween (children (node_at d n)) (n + 1) end = rw q (all_between d s n h) in let c = rw (sym a) at b in
    (c, (λ i. (numbers_are d s (siblings d (n + 1) end) (n + 1) end refl c i).0 ∙ a), λ i. (numbers_are d s (siblings d (n + 1) end) (n + 1) end refl c i).1)

-- the first that is left, and those behind it
pub first_left : (d : Doc) → IsDocument d → (k end next : ℕ) → k < end → end ≤ count d → AreBetween (siblings d k end) k end → next ≡ k + size (node_at d k).tree
    → (numbers_of (siblings d k end) ≡ record { 0 = k } ∷ numbers_of (siblings d next end)) × AreBetween (siblings d next end) next end
first_left d s k end next l i b q = grind (arith, next_left, number_is)
