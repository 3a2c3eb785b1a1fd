-- The greatest number of open containers is the depth of the tree.
use Rattle.json_text.proofs.Names.{◌≡◌, ℕ, suc, ◌+◌, ◌≤◌, ap, ◌∙◌, arith, max, Tree, Leaf, Arr, Obj, Elements, NoElement, Element, Members, NoMember}
use Rattle.json_text.proofs.Names.{Member, deepest, deepest_element, deepest_member}
use Rattle.std.proofs.Math.Nat.{le-max_left, le-max_right}
use Rattle.json_text.specs.Verdict.{depth, depth_of_elements, depth_of_members}

max_same : (l d : ℕ) → l ≤ d → d ≡ max d (l + 0)
max_same l d h = grind arith

max_more : (d l a b : ℕ) → max (max d (l + a)) (l + b) ≡ max d (l + max a b)
max_more d l a b = grind arith

max_in : (d l a : ℕ) → max (max d (suc l)) (suc l + a) ≡ max d (l + suc a)
max_in d l a = grind arith

above : (d l a : ℕ) → l ≤ d → l ≤ max d (l + a)
above d l a h = let x = le-max_left d (l + a) in omega arith

mutual
  deepest_is : (t : Tree) (l d : ℕ) → l ≤ d → deepest t l d ≡ max d (l + depth t)
  deepest_is (Leaf s c) l d h = max_same l d h
  deepest_is (Arr s es) l d h = deepest_element_is es (suc l) (max d (suc l)) (le-max_right d (suc l)) ∙ max_in d l (depth_of_elements es)
  deepest_is (Obj s ms) l d h = deepest_member_is ms (suc l) (max d (suc l)) (le-max_right d (suc l)) ∙ max_in d l (depth_of_members ms)

  deepest_element_is : (es : Elements) (l d : ℕ) → l ≤ d → deepest_element es l d ≡ max d (l + depth_of_elements es)
  deepest_element_is NoElement l d h = max_same l d h
  deepest_element_is (Element t es) l d h =
      ap (deepest_element es l) (deepest_is t l d h) ∙ deepest_element_is es l (max d (l + depth t)) (above d l (depth t) h) ∙ max_more d l (depth t) (depth_of_elements es)

  deepest_member_is : (ms : Members) (l d : ℕ) → l ≤ d → deepest_member ms l d ≡ max d (l + depth_of_members ms)
  deepest_member_is NoMember l d h = max_same l d h
  deepest_member_is (Member n t ms) l d h =
      ap (deepest_member ms l) (deepest_is t l d h) ∙ deepest_member_is ms l (max d (l + depth t)) (above d l (depth t) h) ∙ max_more d l (depth t) (depth_of_members ms)

zero_max : (n : ℕ) → max 0 (0 + n) ≡ n
zero_max n = grind arith

pub deepest_depth : (t : Tree) → deepest t 0 0 ≡ depth t
deepest_depth t = deepest_is t 0 0 (omega arith) ∙ zero_max (depth t)
