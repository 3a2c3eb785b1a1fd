-- What it is for a list of entries to stand for a tree: entry k is the k-th tree, depth first.
use Rattle.std.specs.Prelude.{◌≡◌, ℕ, suc, ◌+◌, List, [], ◌∷◌, ◌++◌, length, get_or, max, true, false, Option, Some, None}
use Rattle.json_text.specs.Tree.{Source, Name, Scalar, Null, True, False, Num, Str, Tree, Leaf, Arr, Obj, Elements, NoElement, Element, Members, NoMember, Member}
use Rattle.json_text.specs.Meaning.{meaning}
use Rattle.json_text.specs.Nodes.{size, size_of_elements, size_of_members}
use Rattle.json_text.specs.declared.tape.Kind.{Kind}
use Rattle.json_text.specs.declared.tape.Kind.TheVariants as kinds
use Rattle.json_text.specs.declared.tape.Extent.{Extent}
use Rattle.json_text.specs.declared.tape.Entry.{Entry}
use Rattle.json_text.specs.declared.tape.Role.{Role}
use Rattle.json_text.specs.declared.tape.Role.TheVariants as roles

-- how many elements or members there are
abbrev pub element_count : Elements → ℕ
element_count NoElement = 0
element_count (Element t es) = suc (element_count es)

abbrev pub member_count : Members → ℕ
member_count NoMember = 0
member_count (Member n t ms) = suc (member_count ms)

abbrev pub kind_of_scalar : Scalar → Kind
kind_of_scalar Null = kinds.Null
kind_of_scalar True = kinds.Bool true
kind_of_scalar False = kinds.Bool false
kind_of_scalar Num = kinds.Number
kind_of_scalar (Str cs) = kinds.Text

abbrev pub extent : Source → Extent
extent s = record { start = s.place; len = length s.bytes }

-- how a tree lies in the one around it: as the whole, as the element with this index, or as a member with this name
pub data Label : Type 0 where
  Top : Label
  Index : (index : ℕ) → Label
  Named : (name : Extent) → Label

abbrev pub role_of : Label → Role
role_of Top = roles.Whole
role_of (Index i) = roles.Element
role_of (Named x) = roles.Member

abbrev pub label_spot : Label → Extent
label_spot Top = record { start = 0; len = 0 }
label_spot (Index i) = record { start = i; len = 0 }
label_spot (Named x) = x

-- The entries of a tree whose own entry has the number k, lies in the entry with the number up (the first lies in itself) by this label.
abbrev mutual
  pub tape_of : Tree → (up : ℕ) (label : Label) (k : ℕ) → List Entry
  tape_of (Leaf s c) up label k =
      record { kind = kind_of_scalar c; role = role_of label; label = label_spot label; source = extent s; up = up; children = 0; after = k + 1 } ∷ []
  tape_of (Arr s es) up label k =
      record { kind = kinds.Array; role = role_of label; label = label_spot label; source = extent s; up = up; children = element_count es; after = k + 1 + size_of_elements es }
      ∷ tape_of_elements es k 0 (k + 1)
  tape_of (Obj s ms) up label k =
      record { kind = kinds.Object; role = role_of label; label = label_spot label; source = extent s; up = up; children = member_count ms; after = k + 1 + size_of_members ms }
      ∷ tape_of_members ms k (k + 1)

  -- the first has the index i
  pub tape_of_elements : Elements → (up i k : ℕ) → List Entry
  tape_of_elements NoElement up i k = []
  tape_of_elements (Element t es) up i k = tape_of t up (Index i) k ++ tape_of_elements es up (i + 1) (k + size t)

  pub tape_of_members : Members → (up k : ℕ) → List Entry
  tape_of_members NoMember up k = []
  tape_of_members (Member n t ms) up k = tape_of t up (Named (extent n.source)) k ++ tape_of_members ms up (k + size t)

-- The greatest number of open containers over a tree that lies in l of them, where it was d before.
abbrev mutual
  pub deepest : Tree → (l d : ℕ) → ℕ
  deepest (Leaf s c) l d = d
  deepest (Arr s es) l d = deepest_element es (suc l) (max d (suc l))
  deepest (Obj s ms) l d = deepest_member ms (suc l) (max d (suc l))

  pub deepest_element : Elements → (l d : ℕ) → ℕ
  deepest_element NoElement l d = d
  deepest_element (Element t es) l d = deepest_element es l (deepest t l d)

  pub deepest_member : Members → (l d : ℕ) → ℕ
  deepest_member NoMember l d = d
  deepest_member (Member n t ms) l d = deepest_member ms l (deepest t l d)

-- the entry of a tree
abbrev pub entry_of : Tree → (up : ℕ) (label : Label) (k : ℕ) → Entry
entry_of (Leaf s c) up label k = record { kind = kind_of_scalar c; role = role_of label; label = label_spot label; source = extent s; up = up; children = 0; after = k + 1 }
entry_of (Arr s es) up label k = record { kind = kinds.Array; role = role_of label; label = label_spot label; source = extent s; up = up; children = element_count es; after = k + 1 + size_of_elements es }
entry_of (Obj s ms) up label k = record { kind = kinds.Object; role = role_of label; label = label_spot label; source = extent s; up = up; children = member_count ms; after = k + 1 + size_of_members ms }

-- the tape stands for the tree
abbrev pub Stands : List Entry → Tree → Type 0
Stands tape t = tape ≡ tape_of t 0 Top 0

-- Which subtree has which number, with the number of the tree that it lies in and its name.
mutual
  pub data IsAt : Tree → (up : ℕ) (label : Label) (k : ℕ) → (n up' : ℕ) (label' : Label) → Tree → Type 0 where
    itself : {t : Tree} {up k : ℕ} {label : Label} → IsAt t up label k k up label t
    in_array : {s : Source} {es : Elements} {up k n up' : ℕ} {label label' : Label} {t : Tree}
        → IsInElements es k 0 (k + 1) n up' label' t → IsAt (Arr s es) up label k n up' label' t
    in_object : {s : Source} {ms : Members} {up k n up' : ℕ} {label label' : Label} {t : Tree}
        → IsInMembers ms k (k + 1) n up' label' t → IsAt (Obj s ms) up label k n up' label' t

  pub data IsInElements : Elements → (up i k n up' : ℕ) (label' : Label) → Tree → Type 0 where
    in_element : {a : Tree} {es : Elements} {up i k n up' : ℕ} {label' : Label} {t : Tree}
        → IsAt a up (Index i) k n up' label' t → IsInElements (Element a es) up i k n up' label' t
    in_later_element : {a : Tree} {es : Elements} {up i k n up' : ℕ} {label' : Label} {t : Tree}
        → IsInElements es up (i + 1) (k + size a) n up' label' t → IsInElements (Element a es) up i k n up' label' t

  pub data IsInMembers : Members → (up k n up' : ℕ) (label' : Label) → Tree → Type 0 where
    in_member : {m : Name} {a : Tree} {ms : Members} {up k n up' : ℕ} {label' : Label} {t : Tree}
        → IsAt a up (Named (extent m.source)) k n up' label' t → IsInMembers (Member m a ms) up k n up' label' t
    in_later_member : {m : Name} {a : Tree} {ms : Members} {up k n up' : ℕ} {label' : Label} {t : Tree}
        → IsInMembers ms up (k + size a) n up' label' t → IsInMembers (Member m a ms) up k n up' label' t

abbrev pub kind_of : Tree → Kind
kind_of (Leaf s c) = kind_of_scalar c
kind_of (Arr s es) = kinds.Array
kind_of (Obj s ms) = kinds.Object

-- the scalar values of a string, the elements of an array, the members of an object
abbrev pub length_of : Tree → Option ℕ
length_of (Leaf s (Str cs)) = Some (length (meaning cs))
length_of (Leaf s c) = None
length_of (Arr s es) = Some (element_count es)
length_of (Obj s ms) = Some (member_count ms)

-- the entry with a number, or one of nothing
abbrev pub nothing_there : Entry
nothing_there = record { kind = kinds.Null; role = roles.Whole; label = record { start = 0; len = 0 }; source = record { start = 0; len = 0 }; up = 0; children = 0; after = 0 }

abbrev pub entry_in : List Entry → ℕ → Entry
entry_in tape n = get_or tape n nothing_there
