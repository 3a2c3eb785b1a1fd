-- What a document stands for: the tree that its text spells, and the node of each number.
use Rattle.std.specs.Prelude.{◌≡◌, ℕ, zero, suc, ◌+◌, ◌<◌, ◌^◌, List, [], ◌∷◌, ◌++◌, length, map, take, drop, get_or, Option, Some, None, true, false}
use Rattle.json_text.specs.Tree.{Source, Name, Scalar, Null, True, False, Num, Str, Tree, Leaf, Arr, Obj, Elements, NoElement, Element, Members, NoMember, Member}
use Rattle.json_text.specs.Meaning.{meaning}
use Rattle.json_text.specs.Nodes.{Node, Step, key, place, size, elements_from, members_from}
use Rattle.json_strings.specs.Spelling.{spelt}
use Rattle.json_text.specs.Tape.{Label, Top, Index, Named, extent, tape_of}
use Rattle.json_text.specs.Verdict.{IsAccepted}
use Rattle.json_text.specs.declared.tape.Kind.{Kind}
use Rattle.json_text.specs.declared.tape.Kind.TheVariants as kinds
use Rattle.json_text.specs.declared.tape.Role.{Role}
use Rattle.json_text.specs.declared.tape.Role.TheVariants as roles
use Rattle.json_text.specs.declared.tape.Lead.{Lead}
use Rattle.json_text.specs.declared.tape.Lead.TheVariants as leads
use Rattle.json_text.specs.declared.tape.Extent.{Extent}
use Rattle.json_text.specs.declared.tape.Entry.{Entry}
use Rattle.json_text.specs.declared.tape.NodeId.{NodeId}
pub use Rattle.json_text.specs.Tape.{kind_of, length_of}

-- the bytes of the text, and the entries of its tape
pub record Doc : Type 0 where
  pub text : List ℕ
  pub entries : List Entry

-- ---- The tree of the entries

-- a tree that is built, and its name, if it is a member's
pub record Built : Type 0 where
  pub name : Option Name
  pub tree : Tree

abbrev pub elements_built : List Built → Elements
elements_built [] = NoElement
elements_built (b ∷ bs) = Element b.tree (elements_built bs)

abbrev pub member_built : Option Name → Tree → Members → Members
member_built None t ms = ms
member_built (Some n) t ms = Member n t ms

abbrev pub members_built : List Built → Members
members_built [] = NoMember
members_built (b ∷ bs) = member_built b.name b.tree (members_built bs)

abbrev pub source_in : List ℕ → Extent → Source
source_in text e = record { place = e.start; bytes = take e.len (drop e.start text) }

abbrev pub scalar_built : Kind → List ℕ → Scalar
scalar_built (kinds.Bool true) bs = True
scalar_built (kinds.Bool false) bs = False
scalar_built kinds.Number bs = Num
scalar_built kinds.Text bs = Str (spelt bs)
scalar_built _ bs = Null

abbrev pub tree_built : Kind → Source → List Built → Tree
tree_built kinds.Array s bs = Arr s (elements_built bs)
tree_built kinds.Object s bs = Obj s (members_built bs)
tree_built k s bs = Leaf s (scalar_built k s.bytes)

abbrev pub name_built : Role → Source → Option Name
name_built roles.Member s = Some (record { source = s; characters = spelt s.bytes })
name_built _ s = None

-- from the last entry to the first: each takes its children off those built
abbrev pub built : List ℕ → List Entry → List Built
built text [] = []
built text (e ∷ es) =
    record { name = name_built e.role (source_in text e.label); tree = tree_built e.kind (source_in text e.source) (take e.children (built text es)) }
    ∷ drop e.children (built text es)

abbrev pub first_built : List Built → Tree
first_built [] = Leaf (record { place = 0; bytes = [] }) Null
first_built (b ∷ bs) = b.tree

unfoldable pub tree_of : Doc → Tree
tree_of d = first_built (built d.text d.entries)

-- ---- The node of a number

-- a node with what is around it: the number of the node that it lies in, how it lies there, and its later siblings
pub record Spot : Type 0 where
  pub node : Node
  pub up : ℕ
  pub label : Label
  pub later : List Node

-- all spots of a tree, depth first
abbrev mutual
  pub spots_from : (way : List Step) (up : ℕ) (label : Label) (later : List Node) (k : ℕ) → Tree → List Spot
  spots_from way up label later k (Leaf s c) = record { node = record { number = k; way_up = way; tree = Leaf s c }; up = up; label = label; later = later } ∷ []
  spots_from way up label later k (Arr s es) = record { node = record { number = k; way_up = way; tree = Arr s es }; up = up; label = label; later = later } ∷ spots_elements way 0 k (suc k) es
  spots_from way up label later k (Obj s ms) = record { node = record { number = k; way_up = way; tree = Obj s ms }; up = up; label = label; later = later } ∷ spots_members way k (suc k) ms

  pub spots_elements : (way : List Step) (i up k : ℕ) → Elements → List Spot
  spots_elements way i up k NoElement = []
  spots_elements way i up k (Element t es) = spots_from (place i ∷ way) up (Index i) (elements_from way (suc i) (k + size t) es) k t ++ spots_elements way (suc i) up (k + size t) es

  pub spots_members : (way : List Step) (up k : ℕ) → Members → List Spot
  spots_members way up k NoMember = []
  spots_members way up k (Member n t ms) = spots_from (key (meaning n.characters) ∷ way) up (Named (extent n.source)) (members_from way (k + size t) ms) k t ++ spots_members way up (k + size t) ms

-- the node of the whole text
abbrev pub root_of : Doc → Node
root_of d = record { number = 0; way_up = []; tree = tree_of d }

abbrev pub spots : Doc → List Spot
spots d = spots_from [] 0 Top [] 0 (tree_of d)

abbrev pub spot_at : Doc → ℕ → Spot
spot_at d k = get_or (spots d) k (record { node = root_of d; up = 0; label = Top; later = [] })

-- how many nodes there are
unfoldable pub count : Doc → ℕ
count d = length d.entries

-- the node with this number
unfoldable pub node_at : Doc → ℕ → Node
node_at d k = (spot_at d k).node

-- the later siblings of the node with this number
unfoldable pub later : Doc → ℕ → List Node
later d k = (spot_at d k).later

-- the nodes of these numbers
abbrev pub seen : Doc → List ℕ → List Node
seen d ks = map (node_at d) ks

-- a node and its later siblings, or no node
abbrev pub following : Doc → Option NodeId → List Node
following d None = []
following d (Some n) = node_at d n.0 ∷ later d n.0

-- the node of this number alone, or no node
abbrev pub single : Doc → Option NodeId → List Node
single d None = []
single d (Some n) = node_at d n.0 ∷ []

-- the number is that of a node
abbrev pub IsIn : Doc → Option NodeId → Type 0
IsIn d None = Unit {0}
IsIn d (Some n) = n.0 < count d

-- k, k + 1 and so on, n of them
abbrev pub counting : ℕ → ℕ → List ℕ
counting k zero = []
counting k (suc n) = k ∷ counting (suc k) n

-- ---- The facts of a node

-- what a string means
abbrev pub string_meaning : Tree → List ℕ
string_meaning (Leaf s (Str cs)) = meaning cs
string_meaning t = []

-- the node is a member of this name
abbrev pub IsMember : List ℕ → Node → Type 0
IsMember name n = (rest : List Step) × (n.way_up ≡ key name ∷ rest)

abbrev pub HasName : Node → Type 0
HasName n = (name : List ℕ) × IsMember name n

-- what leads to the node: nothing to the root, an index to an element, a name to a member
abbrev pub LeadIs : Lead → Node → Type 0
LeadIs leads.Root n = n.way_up ≡ []
LeadIs (leads.Index i) n = (rest : List Step) × (n.way_up ≡ place i ∷ rest)
LeadIs leads.Name n = HasName n

-- the node that a node lies in: none for the root
abbrev pub ParentIs : Doc → Option NodeId → Node → Type 0
ParentIs d None n = n.way_up ≡ []
ParentIs d (Some p) n = (step : Step) × (n.way_up ≡ step ∷ (node_at d p.0).way_up)

-- the bytes stand somewhere in the text
abbrev pub StandsIn : List ℕ → List ℕ → Type 0
StandsIn text bytes = (before after : List ℕ) × (text ≡ before ++ (bytes ++ after))

-- The tree that is built from the entries is an accepted tree of the text, the entries are its tape, and all numbers are small.
pub record IsDocument (d : Doc) : Type 0 where
  pub accepted : IsAccepted d.text (tree_of d)
  pub tape : d.entries ≡ tape_of (tree_of d) 0 Top 0
  pub small : length d.entries < 2 ^ 31
