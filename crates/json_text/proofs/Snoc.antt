-- One more element or member at the end, in each function over lists of them.
use Rattle.json_text.proofs.Names.{◌≡◌, ℕ, suc, ◌+◌, ◌++◌, length, refl, ap, arith, append_assoc, length-append, Name, Tree, Leaf, Arr, Obj, Elements}
use Rattle.json_text.proofs.Names.{NoElement, Element, Members, NoMember, Member, then_element, then_member, Label, Index, Named, deepest}
use Rattle.json_text.proofs.Names.{deepest_element, deepest_member, element_count, member_count, tape_of, tape_of_elements, tape_of_members, extent}
use Rattle.json_text.proofs.Names.{size, size_of_elements, size_of_members, append-nil}

pub count-then_element : (es : Elements) (t : Tree) → element_count (then_element es t) ≡ element_count es + 1
count-then_element NoElement t = refl
count-then_element (Element a es) t = omega (arith, count-then_element es t)

pub count-then_member : (ms : Members) (n : Name) (t : Tree) → member_count (then_member ms n t) ≡ member_count ms + 1
count-then_member NoMember n t = refl
count-then_member (Member m a ms) n t = omega (arith, count-then_member ms n t)

pub tape-then_element : (es : Elements) (t : Tree) (up i k : ℕ) → tape_of_elements (then_element es t) up i k ≡ tape_of_elements es up i k ++ tape_of t up (Index (i + element_count es)) (k + size_of_elements es)
tape-then_element NoElement t up i k = grind (arith, append-nil)
tape-then_element (Element a es) t up i k = grind (arith, tape-then_element es t up (i + 1) (k + size a), append_assoc)

pub deepest-then_element : (es : Elements) (t : Tree) (l d : ℕ) → deepest_element (then_element es t) l d ≡ deepest t l (deepest_element es l d)
deepest-then_element NoElement t l d = refl
deepest-then_element (Element a es) t l d = deepest-then_element es t l (deepest a l d)

pub deepest-then_member : (ms : Members) (n : Name) (t : Tree) (l d : ℕ) → deepest_member (then_member ms n t) l d ≡ deepest t l (deepest_member ms l d)
deepest-then_member NoMember n t l d = refl
deepest-then_member (Member m a ms) n t l d = deepest-then_member ms n t l (deepest a l d)

pub tape-then_member : (ms : Members) (n : Name) (t : Tree) (up k : ℕ) → tape_of_members (then_member ms n t) up k ≡ tape_of_members ms up k ++ tape_of t up (Named (extent n.source)) (k + size_of_members ms)
tape-then_member NoMember n t up k = let e : k ≡ k + 0 = omega arith in simp append-nil (ap (tape_of t up (Named (extent n.source))) e)
tape-then_member (Member m a ms) n t up k = grind (arith, tape-then_member ms n t up (k + size a), append_assoc)

mutual
  pub length-tape : (t : Tree) (up : ℕ) (label : Label) (k : ℕ) → length (tape_of t up label k) ≡ size t
  length-tape (Leaf s c) up label k = refl
  length-tape (Arr s es) up label k = ap suc (length-tape_elements es k 0 (k + 1))
  length-tape (Obj s ms) up label k = ap suc (length-tape_members ms k (k + 1))

  pub length-tape_elements : (es : Elements) (up i k : ℕ) → length (tape_of_elements es up i k) ≡ size_of_elements es
  length-tape_elements NoElement up i k = refl
  length-tape_elements (Element t es) up i k =
      omega (arith, length-append (tape_of t up (Index i) k) (tape_of_elements es up (i + 1) (k + size t)), length-tape t up (Index i) k, length-tape_elements es up (i + 1) (k + size t))

  pub length-tape_members : (ms : Members) (up k : ℕ) → length (tape_of_members ms up k) ≡ size_of_members ms
  length-tape_members NoMember up k = refl
  length-tape_members (Member n t ms) up k =
      omega (arith, length-append (tape_of t up (Named (extent n.source)) k) (tape_of_members ms up (k + size t)), length-tape t up (Named (extent n.source)) k, length-tape_members ms up (k + size t))
