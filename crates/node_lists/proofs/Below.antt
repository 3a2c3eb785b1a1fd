-- Each node below a node is the child of one.
use Rattle.std.proofs.Common.{◌≡◌, ℕ, zero, suc, Bool, true, false, nat_lt, ◌+◌, ◌-◌, ◌<◌, ◌≤◌, List, [], ◌∷◌, ◌++◌, length, refl, sym, ap, ◌∙◌, arith, length-append}
use Rattle.std.specs.Prelude.{flat_map}
use Rattle.std.proofs.lemmas.Grind.{flat_map-append}
use Rattle.std.proofs.lemmas.List.{map-append}
use Rattle.std.proofs.lemmas.Bool.Decides.{nat_tests}
use Rattle.json_tape.specs.Tree.{Tree, Leaf, Arr, Obj, Elements, NoElement, Element, Members, NoMember, Member}
use Rattle.json_tape.specs.Meaning.{meaning}
use Rattle.json_tape.specs.Nodes.{Node, Step, key, place, size, children, elements_from, members_from, visit, visit_from, visit_elements, visit_members}
use Rattle.json_tape.specs.Cells.{is_container}
use Rattle.json_tape.specs.Document.{Doc, kind_of, node_at, seen, counting}
use Rattle.node_lists.specs.Nodelists.{nodes_between, children_between}
use Rattle.node_lists.proofs.Visits.{visit_length, visit_more}

-- the nodes of two lists, and their children
joined : (ns ms : List Node) → length (flat_map children (ns ++ ms)) ≡ length (flat_map children ns) + length (flat_map children ms)
joined ns ms = ap length (flat_map-append children ns ms) ∙ length-append (flat_map children ns) (flat_map children ms)

mutual
  all_but_one : (up : List Step) (k : ℕ) (t : Tree) → suc (length (flat_map children (visit_from up k t))) ≡ length (visit_from up k t)
  all_but_one up k (Leaf s c) = refl
  all_but_one up k (Arr s es) = ap suc (length-append (elements_from up 0 (suc k) es) (flat_map children (visit_elements up 0 (suc k) es)) ∙ all_elements up 0 (suc k) es)
  all_but_one up k (Obj s ms) = ap suc (length-append (members_from up (suc k) ms) (flat_map children (visit_members up (suc k) ms)) ∙ all_members up (suc k) ms)

  all_elements : (up : List Step) (i k : ℕ) (es : Elements) → length (elements_from up i k es) + length (flat_map children (visit_elements up i k es)) ≡ length (visit_elements up i k es)
  all_elements up i k NoElement = refl
  all_elements up i k (Element t es) =
      let first = visit_from (place i ∷ up) k t in
      let others = visit_elements up (suc i) (k + size t) es in
      let a = all_but_one (place i ∷ up) k t in
      let b = all_elements up (suc i) (k + size t) es in
      let j = joined first others in
      let l = length-append first others in
      omega (arith, a, b, j, l)

  all_members : (up : List Step) (k : ℕ) (ms : Members) → length (members_from up k ms) + length (flat_map children (visit_members up k ms)) ≡ length (visit_members up k ms)
  all_members up k NoMember = refl
  all_members up k (Member n t ms) =
      let first = visit_from (key (meaning n.characters) ∷ up) k t in
      let others = visit_members up (k + size t) ms in
      let a = all_but_one (key (meaning n.characters) ∷ up) k t in
      let b = all_members up (k + size t) ms in
      let j = joined first others in
      let l = length-append first others in
      omega (arith, a, b, j, l)

pub below_total : (d : Doc) (k m : ℕ) → seen d (counting k m) ≡ visit (node_at d k) → m ≡ length (flat_map children (visit (node_at d k))) + 1
below_total d k m e = let n = node_at d k in let a = all_but_one n.way_up n.number n.tree in let l = visit_length d k m (visit n) e in omega (arith, a, l)

empty : (ns : List Node) → length ns ≡ 0 → ns ≡ []
empty [] e = refl
empty (n ∷ ns) e = absurd (omega (arith, e))

-- ---- By numbers

counting_split : (k m n : ℕ) → counting k (m + n) ≡ counting k m ++ counting (k + m) n
counting_split k zero n = let none : 0 + n ≡ n = omega arith in let same : k + 0 ≡ k = omega arith in rw (none, same) refl
counting_split k (suc m) n =
    let more : suc m + n ≡ suc (m + n) = omega arith in
    let next : k + suc m ≡ suc k + m = omega arith in
    rw (more, next) (ap (λ ks. k ∷ ks) (counting_split (suc k) m n))

pub nodes_split : (d : Doc) (from mid to : ℕ) → from ≤ mid → mid ≤ to → nodes_between d from to ≡ nodes_between d from mid ++ nodes_between d mid to
nodes_split d from mid to a b =
    let e : to - from ≡ (mid - from) + (to - mid) = omega (arith, a, b) in
    let f : from + (mid - from) ≡ mid = omega (arith, a) in
    let c : counting from (to - from) ≡ counting from (mid - from) ++ counting mid (to - mid) = rw e (counting_split from (mid - from) (to - mid) ∙ rw f refl) in
    ap (seen d) c ∙ map-append (node_at d) (counting from (mid - from)) (counting mid (to - mid))

split : (d : Doc) (from mid to : ℕ) → from ≤ mid → mid ≤ to → children_between d from to ≡ children_between d from mid ++ children_between d mid to
split d from mid to a b = ap (flat_map children) (nodes_split d from mid to a b) ∙ flat_map-append children (nodes_between d from mid) (nodes_between d mid to)

pub none_passed : (d : Doc) (from to : ℕ) → to ≤ from → children_between d from to ≡ []
none_passed d from to le = let none : to - from ≡ 0 = omega (arith, le) in rw none refl

-- a node that is no container
pub one_passed : (d : Doc) (from to : ℕ) → is_container (kind_of (node_at d from).tree) ≡ false → seen d (counting from (to - from)) ≡ visit (node_at d from) → children_between d from to ≡ []
one_passed d from to leaf v = ap (flat_map children) v ∙ go (node_at d from).way_up (node_at d from).number (node_at d from).tree leaf
  where
    go : (up : List Step) (k : ℕ) (t : Tree) → is_container (kind_of t) ≡ false → flat_map children (visit_from up k t) ≡ []
    go up k (Leaf s c) h = refl
    go up k (Arr s es) h = absurd (cc)
    go up k (Obj s ms) h = absurd (cc)

pub more_passed : (d : Doc) (from next to : ℕ) → from ≤ next → next ≤ to → children_between d from next ≡ [] → children_between d next to ≡ [] → children_between d from to ≡ []
more_passed d from next to a b before behind = split d from next to a b ∙ rw (before, behind) refl

-- the children of a node, and then those of the numbers from the next on
pub next_below : (d : Doc) (k next end : ℕ) → k < end → k < next → children_between d (k + 1) next ≡ []
    → children_between d k end ≡ children (node_at d k) ++ children_between d next end
next_below d k next end lt past none = visit_more children d k end lt ∙ ap (λ ns. children (node_at d k) ++ ns) (go (nat_lt next end) refl)
  where
    go : (b : Bool) → nat_lt next end ≡ b → children_between d (k + 1) end ≡ children_between d next end
    go true t = split d (k + 1) next end (omega (arith, past)) (grind (arith, nat_tests, t)) ∙ rw none refl
    go false t =
        let le : end ≤ next = grind (arith, nat_tests, t) in
        let l = ap length (sym (split d (k + 1) end next (omega (arith, lt)) le) ∙ none) in
        let m = length-append (children_between d (k + 1) end) (children_between d end next) in
        empty (children_between d (k + 1) end) (omega (arith, l, m)) ∙ sym (none_passed d next end le)
