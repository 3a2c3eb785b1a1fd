-- Where each number stands among the spots of a tree.
use Rattle.std.proofs.Common.{◌≡◌, ℕ, suc, ◌+◌, ◌≤◌, ◌<◌, ◌⊎◌, inl, inr, List, [], ◌∷◌, ◌++◌, length, map, get_or, refl, sym, ap, ◌∙◌, subst, arith, append_assoc, length-append, add-one}
use Rattle.std.proofs.lemmas.Bool.{cases_lt}
use Rattle.json_text.specs.Tree.{Name, Tree, Leaf, Arr, Obj, Elements, NoElement, Element, Members, NoMember, Member}
use Rattle.json_text.specs.Meaning.{meaning}
use Rattle.json_text.specs.Nodes.{Node, Step, key, place, size, size_of_elements, size_of_members, children, children_of, elements_from, members_from, visit_from, visit_elements, visit_members}
use Rattle.json_text.specs.Letters.{IsString}
use Rattle.json_text.specs.Parts.{HasPart, element, value, IsElementOf, first_element, later_element, IsValueOf, first_value, later_value}
use Rattle.json_text.specs.Tape.{Label, Top, Index, Named, entry_of, tape_of, tape_of_elements, tape_of_members, extent}
use Rattle.json_tape.specs.Document.{Spot, spots_from, spots_elements, spots_members}
use Rattle.json_text.proofs.Entries.{size_positive}
use Rattle.json_text.proofs.Fits.{Lies, Fits, FitElements, FitMembers}
use Rattle.json_text.specs.declared.tape.Entry.{Entry}
use Rattle.std.proofs.lemmas.List.{map-append}
use Rattle.std.proofs.Math.Seq.{get_or-append_seam}

abbrev pub entry_at : Spot → Entry
entry_at s = entry_of s.node.tree s.up s.label s.node.number

abbrev pub node_of : Spot → Node
node_of s = s.node

mutual
  pub tape_is : (way : List Step) (up : ℕ) (label : Label) (later : List Node) (k : ℕ) (t : Tree) → tape_of t up label k ≡ map entry_at (spots_from way up label later k t)
  tape_is way up label later k (Leaf s c) = refl
  tape_is way up label later k (Arr s es) = ap (λ xs. entry_of (Arr s es) up label k ∷ xs) (ap (λ j. tape_of_elements es k 0 j) (add-one k) ∙ tape_elements_is way 0 k (suc k) es)
  tape_is way up label later k (Obj s ms) = ap (λ xs. entry_of (Obj s ms) up label k ∷ xs) (ap (λ j. tape_of_members ms k j) (add-one k) ∙ tape_members_is way k (suc k) ms)

  pub tape_elements_is : (way : List Step) (i up k : ℕ) (es : Elements) → tape_of_elements es up i k ≡ map entry_at (spots_elements way i up k es)
  tape_elements_is way i up k NoElement = refl
  tape_elements_is way i up k (Element t es) = ap (λ j. tape_of t up (Index i) k ++ tape_of_elements es up j (k + size t)) (add-one i)
      ∙ rw (tape_is (place i ∷ way) up (Index i) (elements_from way (suc i) (k + size t) es) k t, tape_elements_is way (suc i) up (k + size t) es)
      (sym (map-append entry_at (spots_from (place i ∷ way) up (Index i) (elements_from way (suc i) (k + size t) es) k t) (spots_elements way (suc i) up (k + size t) es)))

  pub tape_members_is : (way : List Step) (up k : ℕ) (ms : Members) → tape_of_members ms up k ≡ map entry_at (spots_members way up k ms)
  tape_members_is way up k NoMember = refl
  tape_members_is way up k (Member n t ms) =
      rw (tape_is (key (meaning n.characters) ∷ way) up (Named (extent n.source)) (members_from way (k + size t) ms) k t, tape_members_is way up (k + size t) ms)
      (sym (map-append entry_at (spots_from (key (meaning n.characters) ∷ way) up (Named (extent n.source)) (members_from way (k + size t) ms) k t) (spots_members way up (k + size t) ms)))

mutual
  pub visit_is : (way : List Step) (up : ℕ) (label : Label) (later : List Node) (k : ℕ) (t : Tree) → visit_from way k t ≡ map node_of (spots_from way up label later k t)
  visit_is way up label later k (Leaf s c) = refl
  visit_is way up label later k (Arr s es) = ap (λ xs. record { number = k; way_up = way; tree = Arr s es } ∷ xs) (visit_elements_is way 0 k (suc k) es)
  visit_is way up label later k (Obj s ms) = ap (λ xs. record { number = k; way_up = way; tree = Obj s ms } ∷ xs) (visit_members_is way k (suc k) ms)

  pub visit_elements_is : (way : List Step) (i up k : ℕ) (es : Elements) → visit_elements way i k es ≡ map node_of (spots_elements way i up k es)
  visit_elements_is way i up k NoElement = refl
  visit_elements_is way i up k (Element t es) =
      rw (visit_is (place i ∷ way) up (Index i) (elements_from way (suc i) (k + size t) es) k t, visit_elements_is way (suc i) up (k + size t) es)
      (sym (map-append node_of (spots_from (place i ∷ way) up (Index i) (elements_from way (suc i) (k + size t) es) k t) (spots_elements way (suc i) up (k + size t) es)))

  pub visit_members_is : (way : List Step) (up k : ℕ) (ms : Members) → visit_members way k ms ≡ map node_of (spots_members way up k ms)
  visit_members_is way up k NoMember = refl
  visit_members_is way up k (Member n t ms) =
      rw (visit_is (key (meaning n.characters) ∷ way) up (Named (extent n.source)) (members_from way (k + size t) ms) k t, visit_members_is way up (k + size t) ms)
      (sym (map-append node_of (spots_from (key (meaning n.characters) ∷ way) up (Named (extent n.source)) (members_from way (k + size t) ms) k t) (spots_members way up (k + size t) ms)))

mutual
  pub spot_count : (way : List Step) (up : ℕ) (label : Label) (later : List Node) (k : ℕ) (t : Tree) → length (spots_from way up label later k t) ≡ size t
  spot_count way up label later k (Leaf s c) = refl
  spot_count way up label later k (Arr s es) = ap suc (element_spots way 0 k (suc k) es)
  spot_count way up label later k (Obj s ms) = ap suc (member_spots way k (suc k) ms)

  pub element_spots : (way : List Step) (i up k : ℕ) (es : Elements) → length (spots_elements way i up k es) ≡ size_of_elements es
  element_spots way i up k NoElement = refl
  element_spots way i up k (Element t es) =
      rw (length-append (spots_from (place i ∷ way) up (Index i) (elements_from way (suc i) (k + size t) es) k t) (spots_elements way (suc i) up (k + size t) es), spot_count (place i ∷ way) up (Index i) (elements_from way (suc i) (k + size t) es) k t, element_spots way (suc i) up (k + size t) es) refl

  pub member_spots : (way : List Step) (up k : ℕ) (ms : Members) → length (spots_members way up k ms) ≡ size_of_members ms
  member_spots way up k NoMember = refl
  member_spots way up k (Member n t ms) =
      rw (length-append (spots_from (key (meaning n.characters) ∷ way) up (Named (extent n.source)) (members_from way (k + size t) ms) k t) (spots_members way up (k + size t) ms), spot_count (key (meaning n.characters) ∷ way) up (Named (extent n.source)) (members_from way (k + size t) ms) k t, member_spots way up (k + size t) ms) refl

-- the spot of the tree itself, and those inside
abbrev pub top : (way : List Step) (up : ℕ) (label : Label) (later : List Node) (k : ℕ) → Tree → Spot
top way up label later k t = record { node = record { number = k; way_up = way; tree = t }; up = up; label = label; later = later }

abbrev pub inner : (way : List Step) (k : ℕ) → Tree → List Spot
inner way k (Leaf s c) = []
inner way k (Arr s es) = spots_elements way 0 k (suc k) es
inner way k (Obj s ms) = spots_members way k (suc k) ms

pub top_first : (way : List Step) (up : ℕ) (label : Label) (later : List Node) (k : ℕ) (t : Tree) → spots_from way up label later k t ≡ top way up label later k t ∷ inner way k t
top_first way up label later k t = grind arith

abbrev pub end_of : Spot → ℕ
end_of s = s.node.number + size s.node.tree

-- the later siblings of a spot in the list of all
abbrev pub NextIn : (all : List Spot) (d : Spot) (end up : ℕ) (later : List Node) → Type 0
NextIn all d end up [] = end ≡ end_of (get_or all up d)
NextIn all d end up (r ∷ rs) = ((get_or all end d).node ≡ r) × ((get_or all end d).later ≡ rs) × (end < end_of (get_or all up d))

abbrev pub own : Spot → List Spot
own s = spots_from s.node.way_up s.up s.label s.later s.node.number s.node.tree

-- the step of a label; a name stands in the text
abbrev pub StepOf : List ℕ → Label → Step → Type 0
StepOf text Top s = ⊥
StepOf text (Index i) s = s ≡ place i
StepOf text (Named x) s = (n : Name) × (x ≡ extent n.source) × (s ≡ key (meaning n.characters)) × Lies text n.source × IsString n.source.bytes n.characters

-- the root has no step up; any other spot has one more than the spot that it lies in
abbrev pub WayIn : (text : List ℕ) (all : List Spot) (d : Spot) (n up : ℕ) → Label → List Step → Type 0
WayIn text all d n up label way = ((label ≡ Top) × (way ≡ [])) ⊎ ((s : Step) × StepOf text label s × (way ≡ s ∷ (get_or all up d).node.way_up) × (up < n))

-- the root lies in no node; any other node and its later siblings end the children of the node that it lies in
abbrev pub ChildIn : (all : List Spot) (d : Spot) (up : ℕ) → Label → Node → List Node → Type 0
ChildIn all d up label node later = (label ≡ Top) ⊎ ((before : List Node) × (children (get_or all up d).node ≡ before ++ (node ∷ later)))

pub record Good (text : List ℕ) (root : Tree) (all : List Spot) (d : Spot) (n : ℕ) : Type 0 where
  pub spot : Spot
  pub pre : List Spot
  pub post : List Spot
  pub whole : all ≡ pre ++ (own spot ++ post)
  pub at : length pre ≡ n
  pub number : spot.node.number ≡ n
  pub next : NextIn all d (end_of spot) spot.up spot.later
  pub up_in : spot.up < length all
  pub way : WayIn text all d n spot.up spot.label spot.node.way_up
  pub child : ChildIn all d spot.up spot.label spot.node spot.later
  pub fits : Fits text spot.node.tree
  pub part : HasPart root spot.node.tree

first_or_later : (a b : ℕ) → a ≤ b → (a ≡ b) ⊎ (suc a ≤ b)
first_or_later a b h = elim (cases_lt a b) [ inl g ↦ inr (omega arith) | inr g ↦ inl (omega arith) ]

-- the spot at a place of all
pub place_is : (all pre : List Spot) (x : Spot) (xs post : List Spot) (d : Spot) (k : ℕ) → all ≡ pre ++ ((x ∷ xs) ++ post) → length pre ≡ k → get_or all k d ≡ x
place_is all pre x xs post d k e l = rw (e, ← l) (get_or-append_seam pre x (xs ++ post) d)

-- the first of a list of children, as a spot and what is in it
pub one_of : (pre : List Spot) (way : List Step) (u : ℕ) (label : Label) (later : List Node) (k : ℕ) (t : Tree) (rest post : List Spot)
    → pre ++ ((spots_from way u label later k t ++ rest) ++ post) ≡ pre ++ ((top way u label later k t ∷ inner way k t) ++ (rest ++ post))
one_of pre way u label later k t rest post = ap (λ xs. pre ++ xs) (append_assoc (spots_from way u label later k t) rest post ∙ ap (λ ys. ys ++ (rest ++ post)) (top_first way u label later k t))

skip_one : (all pre a rest post : List Spot) → all ≡ pre ++ ((a ++ rest) ++ post) → all ≡ (pre ++ a) ++ (rest ++ post)
skip_one all pre a rest post e = e ∙ ap (λ xs. pre ++ xs) (append_assoc a rest post) ∙ sym (append_assoc pre a (rest ++ post))

keep_one : (all pre a rest post : List Spot) → all ≡ pre ++ ((a ++ rest) ++ post) → all ≡ pre ++ (a ++ (rest ++ post))
keep_one all pre a rest post e = e ∙ ap (λ xs. pre ++ xs) (append_assoc a rest post)

module _ (text : List ℕ) (root : Tree) (all : List Spot) (d : Spot) where
  next_element : (pre post : List Spot) (way : List Step) (i u k : ℕ) (es : Elements)
      → all ≡ pre ++ (spots_elements way i u k es ++ post) → length pre ≡ k → end_of (get_or all u d) ≡ k + size_of_elements es
      → NextIn all d k u (elements_from way i k es)
  next_element pre post way i u k NoElement e l f = omega (arith, f)
  next_element pre post way i u k (Element t es) e l f = grind (arith, one_of, place_is, size_positive)

  next_member : (pre post : List Spot) (way : List Step) (u k : ℕ) (es : Members)
      → all ≡ pre ++ (spots_members way u k es ++ post) → length pre ≡ k → end_of (get_or all u d) ≡ k + size_of_members es
      → NextIn all d k u (members_from way k es)
  next_member pre post way u k NoMember e l f = omega (arith, f)
  next_member pre post way u k (Member m t es) e l f = grind (arith, one_of, place_is, size_positive)

  itself : (pre post : List Spot) (way : List Step) (up : ℕ) (label : Label) (later : List Node) (k : ℕ) (t : Tree)
      → all ≡ pre ++ (spots_from way up label later k t ++ post) → length pre ≡ k → NextIn all d (k + size t) up later → up < length all → WayIn text all d k up label way
      → ChildIn all d up label (top way up label later k t).node later → Fits text t → HasPart root t → Good text root all d k
  itself pre post way up label later k t e l n i w c fits part = record { spot = top way up label later k t; pre = pre; post = post; whole = e; at = l; number = refl; next = n; up_in = i; way = w; child = c; fits = fits; part = part }

  under : (pre post : List Spot) (way : List Step) (up : ℕ) (label : Label) (later : List Node) (k : ℕ) (t : Tree)
      → all ≡ pre ++ (spots_from way up label later k t ++ post) → length pre ≡ k
      → (all ≡ (pre ++ top way up label later k t ∷ []) ++ (inner way k t ++ post)) × (length (pre ++ top way up label later k t ∷ []) ≡ suc k) × (end_of (get_or all k d) ≡ k + size t) × (k < length all) × ((get_or all k d).node.way_up ≡ way) × (children (get_or all k d).node ≡ children_of way k t)
  under pre post way up label later k t e l = grind (arith, top_first, place_is, append_assoc, length-append)

  choose : (k n : ℕ) → (k ≡ n) ⊎ (suc k ≤ n) → Good text root all d k → (suc k ≤ n → Good text root all d n) → Good text root all d n
  choose k n h a f = search arith

  split : (e n : ℕ) → (n < e) ⊎ (e ≤ n) → (n < e → Good text root all d n) → (e ≤ n → Good text root all d n) → Good text root all d n
  split e n h f g = search arith

  -- one child further
  one_past : {whole : List Node} (x : Node) (later : List Node) → (before : List Node) × (whole ≡ before ++ (x ∷ later)) → (before : List Node) × (whole ≡ before ++ later)
  one_past x later (before, e) = (before ++ x ∷ [], e ∙ sym (append_assoc before (x ∷ []) later))

  mutual
    pub walk : (pre post : List Spot) (way : List Step) (up : ℕ) (label : Label) (later : List Node) (k : ℕ) (t : Tree)
        → all ≡ pre ++ (spots_from way up label later k t ++ post) → length pre ≡ k → NextIn all d (k + size t) up later → up < length all → WayIn text all d k up label way
        → ChildIn all d up label (top way up label later k t).node later → Fits text t → HasPart root t
        → (n : ℕ) → k ≤ n → n < k + size t → Good text root all d n
    walk pre post way up label later k (Leaf s c) e l f i w q fits part n h g = let j : k ≡ n = omega arith in subst (Good text root all d) j (itself pre post way up label later k (Leaf s c) e l f i w q fits part)
    walk pre post way up label later k (Arr s es) e l f i w q fits part n h g = let u = under pre post way up label later k (Arr s es) e l in
        choose k n (first_or_later k n h) (itself pre post way up label later k (Arr s es) e l f i w q fits part)
        (λ m. walk_elements (pre ++ top way up label later k (Arr s es) ∷ []) post way 0 k (suc k) es u.0 u.1 (u.2 ∙ omega arith) u.3 u.4 (omega arith) ([], u.5) fits.1 (λ v x. element part x) n m (omega arith))
    walk pre post way up label later k (Obj s es) e l f i w q fits part n h g = let u = under pre post way up label later k (Obj s es) e l in
        choose k n (first_or_later k n h) (itself pre post way up label later k (Obj s es) e l f i w q fits part)
        (λ m. walk_members (pre ++ top way up label later k (Obj s es) ∷ []) post way k (suc k) es u.0 u.1 (u.2 ∙ omega arith) u.3 u.4 (omega arith) ([], u.5) fits.1 (λ v x. value part x) n m (omega arith))

    pub walk_elements : (pre post : List Spot) (way : List Step) (i u k : ℕ) (es : Elements)
        → all ≡ pre ++ (spots_elements way i u k es ++ post) → length pre ≡ k → end_of (get_or all u d) ≡ k + size_of_elements es → u < length all → (get_or all u d).node.way_up ≡ way → u < k
        → (before : List Node) × (children (get_or all u d).node ≡ before ++ elements_from way i k es)
        → FitElements text es → ((v : Tree) → IsElementOf es v → HasPart root v)
        → (n : ℕ) → k ≤ n → n < k + size_of_elements es → Good text root all d n
    walk_elements pre post way i u k NoElement e l f v y z b fits part n h g = absurd (omega arith)
    walk_elements pre post way i u k (Element t es) e l f v y z b fits part n h g =
        let later = elements_from way (suc i) (k + size t) es in let a = spots_from (place i ∷ way) u (Index i) later k t in
        let rest = spots_elements way (suc i) u (k + size t) es in let past : all ≡ (pre ++ a) ++ (rest ++ post) = skip_one all pre a rest post e in
        let long : length (pre ++ a) ≡ k + size t = omega (arith, length-append pre a, spot_count (place i ∷ way) u (Index i) later k t, l) in
        let f2 : end_of (get_or all u d) ≡ (k + size t) + size_of_elements es = omega (arith, f) in split (k + size t) n (cases_lt n (k + size t))
        (λ m. walk pre (rest ++ post) (place i ∷ way) u (Index i) later k t (keep_one all pre a rest post e) l (next_element (pre ++ a) post way (suc i) u (k + size t) es past long f2) v (inr (place i, refl, ap (λ ws. place i ∷ ws) (sym y), z)) (inr b) fits.0 (part t first_element) n h m)
        (λ m. walk_elements (pre ++ a) post way (suc i) u (k + size t) es past long f2 v y (omega (arith, z)) (one_past (top (place i ∷ way) u (Index i) later k t).node later b) fits.1 (λ w x. part w (later_element x)) n m (omega arith))

    pub walk_members : (pre post : List Spot) (way : List Step) (u k : ℕ) (es : Members)
        → all ≡ pre ++ (spots_members way u k es ++ post) → length pre ≡ k → end_of (get_or all u d) ≡ k + size_of_members es → u < length all → (get_or all u d).node.way_up ≡ way → u < k
        → (before : List Node) × (children (get_or all u d).node ≡ before ++ members_from way k es)
        → FitMembers text es → ((v : Tree) → IsValueOf es v → HasPart root v) → (n : ℕ) → k ≤ n → n < k + size_of_members es → Good text root all d n
    walk_members pre post way u k NoMember e l f v y z b fits part n h g = absurd (omega arith)
    walk_members pre post way u k (Member m t es) e l f v y z b fits part n h g =
        let later = members_from way (k + size t) es in let a = spots_from (key (meaning m.characters) ∷ way) u (Named (extent m.source)) later k t in
        let rest = spots_members way u (k + size t) es in let past : all ≡ (pre ++ a) ++ (rest ++ post) = skip_one all pre a rest post e in
        let long : length (pre ++ a) ≡ k + size t = omega (arith, length-append pre a, spot_count (key (meaning m.characters) ∷ way) u (Named (extent m.source)) later k t, l) in
        let f2 : end_of (get_or all u d) ≡ (k + size t) + size_of_members es = omega (arith, f) in split (k + size t) n (cases_lt n (k + size t))
        (λ x. walk pre (rest ++ post) (key (meaning m.characters) ∷ way) u (Named (extent m.source)) later k t (keep_one all pre a rest post e) l (next_member (pre ++ a) post way u (k + size t) es past long f2) v
        (inr (key (meaning m.characters), (m, refl, refl, fits.0, fits.1), ap (λ ws. key (meaning m.characters) ∷ ws) (sym y), z)) (inr b) fits.2 (part t first_value) n h x)
        (λ x. walk_members (pre ++ a) post way u (k + size t) es past long f2 v y (omega (arith, z)) (one_past (top (key (meaning m.characters) ∷ way) u (Named (extent m.source)) later k t).node later b) fits.3 (λ w y. part w (later_value y)) n x (omega arith))
