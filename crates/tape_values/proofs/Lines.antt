-- Elements that have nothing in them have numbers that follow one another.
use Rattle.std.proofs.Common.{◌≡◌, ℕ, zero, suc, ◌+◌, ◌-◌, ◌<◌, ◌≤◌, List, [], ◌∷◌, length, refl, sym, ap, ◌∙◌, arith}
use Rattle.std.proofs.lemmas.List.{length-append}
use Rattle.json_tape.specs.Tree.{Tree, Leaf, Arr, Obj, Elements, NoElement, Element}
use Rattle.json_tape.specs.Nodes.{Node, Step, place, size, elements_from, elements_of, elements, visit_from, visit_elements, visit_members, visit}
use Rattle.json_tape.specs.Document.{Doc, node_at, seen, counting}
use Rattle.tape_values.specs.Selection.{nth}

none_of : (ns : List Node) → length ns ≡ 0 → ns ≡ []
none_of [] e = refl
none_of (n ∷ ns) e = absurd cc

visit_some : (up : List Step) (k : ℕ) (t : Tree) → 1 ≤ length (visit_from up k t)
visit_some up k (Leaf s c) = omega arith
visit_some up k (Arr s es) = omega arith
visit_some up k (Obj s ms) = omega arith

visit_one : (up : List Step) (k : ℕ) (t : Tree) → length (visit_from up k t) ≡ 1 → visit_from up k t ≡ record { number = k; way_up = up; tree = t } ∷ []
visit_one up k (Leaf s c) e = refl
visit_one up k (Arr s es) e = let none = none_of (visit_elements up 0 (suc k) es) (omega (arith, e)) in rw none refl
visit_one up k (Obj s ms) e = let none = none_of (visit_members up (suc k) ms) (omega (arith, e)) in rw none refl

visit_all : (up : List Step) (i k : ℕ) (es : Elements) → length (elements_from up i k es) ≤ length (visit_elements up i k es)
visit_all up i k NoElement = omega arith
visit_all up i k (Element t es) =
    let one = visit_some (place i ∷ up) k t in
    let others = visit_all up (suc i) (k + size t) es in
    let both = length-append (visit_from (place i ∷ up) k t) (visit_elements up (suc i) (k + size t) es) in
    omega (arith, one, others, both)

visit_leaves : (up : List Step) (i k : ℕ) (es : Elements) → length (visit_elements up i k es) ≡ length (elements_from up i k es) → visit_elements up i k es ≡ elements_from up i k es
visit_leaves up i k NoElement e = refl
visit_leaves up i k (Element t es) e =
    let some = visit_some (place i ∷ up) k t in
    let all = visit_all up (suc i) (k + size t) es in
    let both = length-append (visit_from (place i ∷ up) k t) (visit_elements up (suc i) (k + size t) es) in
    let one = visit_one (place i ∷ up) k t (omega (arith, e, some, all, both)) in
    let others = visit_leaves up (suc i) (k + size t) es (omega (arith, e, some, all, both)) in
    rw (one, others) refl

seen_nth : (d : Doc) (k len p : ℕ) → p < len → nth p (seen d (counting k len)) ≡ node_at d (k + p) ∷ []
seen_nth d k zero p h = absurd (omega (arith, h))
seen_nth d k (suc len) zero h = let e : k ≡ k + 0 = omega arith in ap (λ j. node_at d j ∷ []) e
seen_nth d k (suc len) (suc p) h = let e : suc k + p ≡ k + suc p = omega arith in seen_nth d (suc k) len p (omega (arith, h)) ∙ ap (λ j. node_at d j ∷ []) e

seen_length : (d : Doc) (k len : ℕ) → length (seen d (counting k len)) ≡ len
seen_length d k zero = refl
seen_length d k (suc len) = ap suc (seen_length d (suc k) len)

abbrev rest_of : List Node → List Node
rest_of [] = []
rest_of (n ∷ ns) = ns

visit_array : (up : List Step) (k : ℕ) (t : Tree) (ns : List Node) → suc (length (elements_of up k t)) ≡ length ns → ns ≡ visit_from up k t → 0 < length (elements_of up k t) → rest_of ns ≡ elements_of up k t
visit_array up k (Leaf s c) ns e v h = absurd (omega (arith, h))
visit_array up k (Obj s ms) ns e v h = absurd (omega (arith, h))
visit_array up k (Arr s es) ns e v h =
    let l : length ns ≡ suc (length (visit_elements up 0 (suc k) es)) = ap length v in
    ap rest_of v ∙ visit_leaves up 0 (suc k) es (omega (arith, e, l))

pub in_line : (d : Doc) (k m p : ℕ) (n : Node) → seen d (counting k m) ≡ visit n → m - 1 ≡ length (elements n) → p < length (elements n) → node_at d (k + 1 + p) ∷ [] ≡ nth p (elements n)
in_line d k zero p n v e h = absurd (omega (arith, e, h))
in_line d k (suc len) p n v e h =
    let l : len ≡ length (elements n) = omega (arith, e) in
    let q : suc k + p ≡ k + 1 + p = omega arith in
    let all = seen_length d (suc k) len in
    let same : seen d (counting (suc k) len) ≡ elements n = visit_array n.way_up n.number n.tree (seen d (counting k (suc len))) (omega (arith, all, l)) v (omega (arith, h)) in
    sym (ap (λ ns. nth p ns) (sym same) ∙ seen_nth d (suc k) len p (omega (arith, h, l)) ∙ ap (λ j. node_at d j ∷ []) q)
