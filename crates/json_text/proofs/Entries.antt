-- The fields of a tree's entry.
use Rattle.json_text.proofs.Names.{◌≡◌, ℕ, ◌+◌, ◌<◌, List, arith, Tree, Leaf, Arr, Obj, source_of, size, Label, role_of, label_spot, extent}
use Rattle.json_text.proofs.Names.{element_count, member_count, entry_of, kind_of}
use Rattle.json_text.proofs.Fits.{Lies, Fits}

pub size_positive : (t : Tree) → 0 < size t
size_positive (Leaf s c) = omega arith
size_positive _ = omega arith

-- how many elements or members there are
abbrev pub child_count : Tree → ℕ
child_count (Leaf s c) = 0
child_count (Arr s es) = element_count es
child_count (Obj s ms) = member_count ms

pub kind_is : (t : Tree) (up : ℕ) (label : Label) (k : ℕ) → (entry_of t up label k).kind ≡ kind_of t
kind_is t up label k = grind arith

pub source_is : (t : Tree) (up : ℕ) (label : Label) (k : ℕ) → (entry_of t up label k).source ≡ extent (source_of t)
source_is t up label k = grind arith

pub role_is : (t : Tree) (up : ℕ) (label : Label) (k : ℕ) → (entry_of t up label k).role ≡ role_of label
role_is t up label k = grind arith

pub label_is : (t : Tree) (up : ℕ) (label : Label) (k : ℕ) → (entry_of t up label k).label ≡ label_spot label
label_is t up label k = grind arith

pub up_is : (t : Tree) (up : ℕ) (label : Label) (k : ℕ) → (entry_of t up label k).up ≡ up
up_is t up label k = grind arith

pub children_is : (t : Tree) (up : ℕ) (label : Label) (k : ℕ) → (entry_of t up label k).children ≡ child_count t
children_is t up label k = grind arith

pub after_is : (t : Tree) (up : ℕ) (label : Label) (k : ℕ) → (entry_of t up label k).after ≡ k + size t
after_is t up label k = grind arith

-- the bytes of a part of the text's tree stand in the text at its place
pub lies_in : (text : List ℕ) (t : Tree) → Fits text t → Lies text (source_of t)
lies_in text t f = search arith
