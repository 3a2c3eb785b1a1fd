-- An element and its later siblings, by its place.
use Rattle.std.proofs.Common.{◌≡◌, ℕ, zero, suc, ◌+◌, ◌<◌, List, [], ◌∷◌, ◌++◌, length, drop, slice_index_or, get_or, refl, sym, ap, ◌∙◌, arith, append_assoc, length-append}
use Rattle.std.specs.List.{Contains}
use Rattle.json_text.specs.Tree.{Tree, Leaf, Arr, Obj, Elements, NoElement, Element, Members, NoMember, Member}
use Rattle.json_text.specs.Nodes.{Node, Step, place, size, elements_from, members_from, elements_of, elements, children_of, children}
use Rattle.json_text.specs.Tape.{Label, Index}
use Rattle.json_tape.specs.Document.{Doc, Spot, IsDocument, spots, spots_from, spots_elements, count, node_at, later}
use Rattle.json_tape.proofs.Spots.{top, inner, one_of, place_is, spot_count}
use Rattle.json_tape.proofs.Readers.{good, spot_is, none_there, number_is}

-- the one at a place of some elements has it in its way
placed_in : (up : List Step) (i k j : ℕ) (es : Elements) (x : Node) → j < length (elements_from up i k es) → slice_index_or (elements_from up i k es) j x ≡ x
    → x.way_up ≡ place (i + j) ∷ up
placed_in up i k j NoElement x lt e = absurd (omega (arith, lt))
placed_in up i k zero (Element t es) x lt e = let z : i + zero ≡ i = omega arith in rw (← e, z) refl
placed_in up i k (suc j) (Element t es) x lt e =
    let h = placed_in up (suc i) (k + size t) j es x (omega (arith, lt)) e in
    let z : i + suc j ≡ suc i + j = omega arith in
    rw z h

-- a member has a name there
named_in : (up : List Step) (k i j : ℕ) (rest : List Step) (ms : Members) (x : Node) → j < length (members_from up k ms) → slice_index_or (members_from up k ms) j x ≡ x → x.way_up ≡ place i ∷ rest → ⊥
named_in up k i j rest NoMember x lt e w = omega (arith, lt)
named_in up k i zero rest (Member n t ms) x lt e w = let f = ap (λ (y : Node). y.way_up) e ∙ w in cc
named_in up k i (suc j) rest (Member n t ms) x lt e w = named_in up (k + size t) i j rest ms x (omega (arith, lt)) e w

-- the later siblings of the one at a place are those behind it
behind_in : (all pre post : List Spot) (d : Spot) (up : List Step) (i u k j : ℕ) (es : Elements) (x : Node) → all ≡ pre ++ (spots_elements up i u k es ++ post) → length pre ≡ k
    → j < length (elements_from up i k es) → slice_index_or (elements_from up i k es) j x ≡ x → x ∷ (get_or all x.number d).later ≡ drop j (elements_from up i k es)
behind_in all pre post d up i u k j NoElement x a l lt e = absurd (omega (arith, lt))
behind_in all pre post d up i u k zero (Element t es) x a l lt e =
    let later = elements_from up (suc i) (k + size t) es in
    let here = place_is all pre (top (place i ∷ up) u (Index i) later k t) (inner (place i ∷ up) k t) (spots_elements up (suc i) u (k + size t) es ++ post) d k
    (a ∙ one_of pre (place i ∷ up) u (Index i) later k t (spots_elements up (suc i) u (k + size t) es) post) l in
    rw (← e, here) refl
behind_in all pre post d up i u k (suc j) (Element t es) x a l lt e =
    let first = spots_from (place i ∷ up) u (Index i) (elements_from up (suc i) (k + size t) es) k t in
    let rest = spots_elements up (suc i) u (k + size t) es in
    let past : all ≡ (pre ++ first) ++ (rest ++ post) = a ∙ ap (λ xs. pre ++ xs) (append_assoc first rest post) ∙ sym (append_assoc pre first (rest ++ post)) in
    let long : length (pre ++ first) ≡ k + size t = omega (arith, length-append pre first, spot_count (place i ∷ up) u (Index i) (elements_from up (suc i) (k + size t) es) k t, l) in
    behind_in all (pre ++ first) post d up (suc i) u (k + size t) j es x past long (omega (arith, lt)) e

behind_of : (all pre post : List Spot) (d : Spot) (up : List Step) (u : ℕ) (label : Label) (later : List Node) (k i j : ℕ) (rest : List Step) (t : Tree) (x : Node)
    → all ≡ pre ++ (spots_from up u label later k t ++ post) → length pre ≡ k → j < length (children_of up k t) → slice_index_or (children_of up k t) j x ≡ x → x.way_up ≡ place i ∷ rest
    → x ∷ (get_or all x.number d).later ≡ drop i (elements_of up k t)
behind_of all pre post d up u label later k i j rest (Leaf s c) x a l lt e w = absurd (omega (arith, lt))
behind_of all pre post d up u label later k i j rest (Obj s ms) x a l lt e w = absurd (named_in up (suc k) i j rest ms x lt e w)
behind_of all pre post d up u label later k i j rest (Arr s es) x a l lt e w =
    let h = placed_in up 0 (suc k) j es x lt e in
    let same : i ≡ j = (let p = sym w ∙ h in let q : place i ≡ place (0 + j) = cc in let r : i ≡ 0 + j = cc in omega (arith, r)) in
    let array = top up u label later k (Arr s es) in
    let past : all ≡ (pre ++ array ∷ []) ++ (spots_elements up 0 k (suc k) es ++ post) = a ∙ sym (append_assoc pre (array ∷ []) (spots_elements up 0 k (suc k) es ++ post)) in
    rw same (behind_in all (pre ++ array ∷ []) post d up 0 k (suc k) j es x past (omega (arith, length-append pre (array ∷ []), l)) lt e)

module _ (d : Doc) (s : IsDocument d) where
  pub behind : (k p i : ℕ) (rest : List Step) → k < count d → p < count d → Contains (children (node_at d k)) (node_at d p) → (node_at d p).way_up ≡ place i ∷ rest → node_at d p ∷ later d p ≡ drop i (elements (node_at d k))
  unfolding node_at later
  behind k p i rest inside there has way =
      let number = number_is d s p there in
      let g = good d s k inside in
      let x = node_at d p in
      let same : node_at d k ≡ g.spot.node = ap (λ (y : Spot). y.node) (spot_is d s k g) in
      let at : length g.pre ≡ g.spot.node.number = g.at ∙ sym g.number in
      let c = rw same at has in
      let b = behind_of (spots d) g.pre g.post (none_there d) g.spot.node.way_up g.spot.up g.spot.label g.spot.later g.spot.node.number i c.0 rest g.spot.node.tree x g.whole at c.1 c.2 way in
      rw same (rw number at b)
