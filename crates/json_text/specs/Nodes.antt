-- The nodes of a text: each value with the steps that lead to it from the root, children in document order (RFC 9535, sections 1.1 and 2.1), numbered depth first.
use Rattle.std.specs.Prelude.{ℕ, suc, ◌+◌, List, [], ◌∷◌, ◌++◌, length, reverse, Bool, false, if◌then◌else◌, bytes_eq}
use Rattle.json_text.specs.Tree.{Tree, Leaf, Arr, Obj, Elements, NoElement, Element, Members, NoMember, Member}
use Rattle.json_text.specs.Meaning.{meaning}

-- a step down: a member's name by its meaning, or an element's index
pub data Step : Type 0 where
  key : List ℕ → Step
  place : ℕ → Step

-- the steps from the node up to the root, the node's own first
pub record Node : Type 0 where
  pub number : ℕ
  pub way_up : List Step
  pub tree : Tree

-- the steps from the root to the node
abbrev pub steps : Node → List Step
steps n = reverse n.way_up

-- Bytes that stand in a text for a step, at least: one for each scalar value of the name or each element before the index, and one more.
abbrev pub step_size : Step → ℕ
step_size (key scalars) = suc (length scalars)
step_size (place i) = suc i

-- for all steps of a way
abbrev pub way_size : List Step → ℕ
way_size [] = 0
way_size (s ∷ ss) = step_size s + way_size ss

-- how many trees there are in a tree
abbrev mutual
  pub size : Tree → ℕ
  size (Leaf s c) = 1
  size (Arr s es) = suc (size_of_elements es)
  size (Obj s ms) = suc (size_of_members ms)

  pub size_of_elements : Elements → ℕ
  size_of_elements NoElement = 0
  size_of_elements (Element t es) = size t + size_of_elements es

  pub size_of_members : Members → ℕ
  size_of_members NoMember = 0
  size_of_members (Member n t ms) = size t + size_of_members ms

abbrev pub elements_from : (up : List Step) (i k : ℕ) → Elements → List Node
elements_from up i k NoElement = []
elements_from up i k (Element t es) = record { number = k; way_up = place i ∷ up; tree = t } ∷ elements_from up (suc i) (k + size t) es

abbrev pub members_from : (up : List Step) (k : ℕ) → Members → List Node
members_from up k NoMember = []
members_from up k (Member n t ms) = record { number = k; way_up = key (meaning n.characters) ∷ up; tree = t } ∷ members_from up (k + size t) ms

abbrev pub elements_of : List Step → ℕ → Tree → List Node
elements_of up k (Leaf s c) = []
elements_of up k (Arr s es) = elements_from up 0 (suc k) es
elements_of up k (Obj s ms) = []

abbrev pub children_of : List Step → ℕ → Tree → List Node
children_of up k (Leaf s c) = []
children_of up k (Arr s es) = elements_from up 0 (suc k) es
children_of up k (Obj s ms) = members_from up (suc k) ms

-- the children, in document order
abbrev pub children : Node → List Node
children n = children_of n.way_up n.number n.tree

-- the children of an array
abbrev pub elements : Node → List Node
elements n = elements_of n.way_up n.number n.tree

-- a value and all that is in it, parent before children
abbrev mutual
  pub visit_from : List Step → ℕ → Tree → List Node
  visit_from up k (Leaf s c) = record { number = k; way_up = up; tree = Leaf s c } ∷ []
  visit_from up k (Arr s es) = record { number = k; way_up = up; tree = Arr s es } ∷ visit_elements up 0 (suc k) es
  visit_from up k (Obj s ms) = record { number = k; way_up = up; tree = Obj s ms } ∷ visit_members up (suc k) ms

  pub visit_elements : List Step → ℕ → ℕ → Elements → List Node
  visit_elements up i k NoElement = []
  visit_elements up i k (Element t es) = visit_from (place i ∷ up) k t ++ visit_elements up (suc i) (k + size t) es

  pub visit_members : List Step → ℕ → Members → List Node
  visit_members up k NoMember = []
  visit_members up k (Member n t ms) = visit_from (key (meaning n.characters) ∷ up) k t ++ visit_members up (k + size t) ms

abbrev pub visit : Node → List Node
visit n = visit_from n.way_up n.number n.tree

-- the node is a member of this name
abbrev pub key_is : List ℕ → List Step → Bool
key_is cs [] = false
key_is cs (key k ∷ up) = bytes_eq cs k
key_is cs (place i ∷ up) = false

abbrev pub is_named : List ℕ → Node → Bool
is_named cs n = key_is cs n.way_up

-- the first for which a test holds
abbrev pub first_where : (Node → Bool) → List Node → List Node
first_where p [] = []
first_where p (n ∷ ns) = if p n then n ∷ [] else first_where p ns
