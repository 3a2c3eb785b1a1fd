-- No two members of an object have one name, so that one that has it is the first.
use Rattle.json_text.proofs.Names.{◌≡◌, ℕ, zero, suc, ◌+◌, ◌<◌, Bool, true, false, List, [], ◌∷◌, refl, sym, ap, ◌∙◌, subst, arith, bytes_eq}
use Rattle.json_text.proofs.Names.{Contains, list_any, bytes_decides, Source, Tree, Leaf, Arr, Obj, Elements, NoElement, Element, Members, NoMember}
use Rattle.json_text.proofs.Names.{Member, Node, Step, size, elements_from, members_from, children_of, children, is_named, first_where, HasPart}
use Rattle.json_text.proofs.Names.{is_same, repeats, meanings, or_parts}
use Rattle.json_text.specs.Meaning.{meaning}
use Rattle.json_tape.specs.Document.{Doc, IsDocument, node_at, count, tree_of}
use Rattle.json_text.specs.declared.tape.TextFault.TheVariants.{LoneSurrogate, DuplicateName}
use Rattle.json_tape.proofs.Readers.{part_is}
use Rattle.name_order.proofs.TwinNames.{twins_of}

-- a node of the name, so a name among the members
named_among : (name : List ℕ) (up : List Step) (k : ℕ) (ms : Members) (x : Node) → Contains (members_from up k ms) x → is_named name x ≡ true → list_any (λ y. is_same y name) (meanings ms) ≡ true
named_among name up k NoMember x (i, l, e) h = absurd (omega (arith, l))
named_among name up k (Member m t ms) x (zero, l, e) h = let b : bytes_eq name (meaning m.characters) ≡ true = ap (is_named name) e ∙ h in
    let s : is_same (meaning m.characters) name ≡ true = (bytes_decides (meaning m.characters) name).1 (sym ((bytes_decides name (meaning m.characters)).0 b)) in
    rw s refl
named_among name up k (Member m t ms) x (suc i, l, e) h = grind (arith, named_among name up (k + size t) ms x (i, omega (arith, l), e) h)

first_named : (name : List ℕ) (up : List Step) (k : ℕ) (ms : Members) (x : Node) → repeats (meanings ms) ≡ false → Contains (members_from up k ms) x → is_named name x ≡ true
    → first_where (is_named name) (members_from up k ms) ≡ x ∷ []
first_named name up k NoMember x u (i, l, e) h = absurd (omega (arith, l))
first_named name up k (Member m t ms) x u (zero, l, e) h = cc
first_named name up k (Member m t ms) x u (suc i, l, e) h =
    let n = or_parts (list_any (λ y. is_same y (meaning m.characters)) (meanings ms)) (repeats (meanings ms)) u in
    let c : Contains (members_from up (k + size t) ms) x = (i, omega (arith, l), e) in
    go (bytes_eq name (meaning m.characters)) refl n.0 (named_among name up (k + size t) ms x c h) (first_named name up (k + size t) ms x n.1 c h)
  where
    go : (b : Bool) → bytes_eq name (meaning m.characters) ≡ b → list_any (λ y. is_same y (meaning m.characters)) (meanings ms) ≡ false → list_any (λ y. is_same y name) (meanings ms) ≡ true
        → first_where (is_named name) (members_from up (k + size t) ms) ≡ x ∷ [] → first_where (is_named name) (members_from up k (Member m t ms)) ≡ x ∷ []
    go false b none some rest = rw b rest
    go true b none some rest =
        let same : list_any (λ y. is_same y name) (meanings ms) ≡ list_any (λ y. is_same y (meaning m.characters)) (meanings ms) = ap (λ z. list_any (λ y. is_same y z) (meanings ms)) ((bytes_decides name (meaning m.characters)).0 b) in
        absurd (let z = sym some ∙ same ∙ none in cc)

nameless : (name : List ℕ) (up : List Step) (i k : ℕ) (es : Elements) (x : Node) → Contains (elements_from up i k es) x → is_named name x ≡ false
nameless name up i k NoElement x (j, l, e) = absurd (omega (arith, l))
nameless name up i k (Element t es) x (zero, l, e) = sym (ap (is_named name) e)
nameless name up i k (Element t es) x (suc j, l, e) = nameless name up (suc i) (k + size t) es x (j, omega (arith, l), e)

first_child_named : (name : List ℕ) (up : List Step) (k : ℕ) (t : Tree) → ((s : Source) (ms : Members) → t ≡ Obj s ms → repeats (meanings ms) ≡ false)
    → (x : Node) → Contains (children_of up k t) x → is_named name x ≡ true → x ∷ [] ≡ first_where (is_named name) (children_of up k t)
first_child_named name up k (Leaf s c) u x (i, l, e) h = absurd (omega (arith, l))
first_child_named name up k (Arr s es) u x c h = absurd (let z = sym h ∙ nameless name up 0 (suc k) es x c in cc)
first_child_named name up k (Obj s ms) u x c h = sym (first_named name up (suc k) ms x (u s ms refl) c h)

-- an object of an accepted text
distinct : (d : Doc) → IsDocument d → (s : Source) (ms : Members) → HasPart (tree_of d) (Obj s ms) → repeats (meanings ms) ≡ false
distinct d is s ms p = go (repeats (meanings ms)) refl where
  go : (b : Bool) → repeats (meanings ms) ≡ b → repeats (meanings ms) ≡ false
  go false e = e
  go true e = absurd (is.accepted.1 DuplicateName (tree_of d, Obj s ms, is.accepted.0, p, twins_of ms (λ m i lone. is.accepted.1 LoneSurrogate (tree_of d, Obj s ms, is.accepted.0, p, (m, i, lone))) e))

pub only_named : (d : Doc) → IsDocument d → (name : List ℕ) (n : ℕ) → n < count d → (x : Node) → Contains (children (node_at d n)) x → is_named name x ≡ true
    → x ∷ [] ≡ first_where (is_named name) (children (node_at d n))
only_named d is name n l x c h =
    first_child_named name (node_at d n).way_up (node_at d n).number (node_at d n).tree (λ s ms e. distinct d is s ms (subst (HasPart (tree_of d)) e (part_is d is n l))) x c h
