-- The verdict on a text: the first refusal that applies, or the tree that it spells. RFC 8259 leaves limits, repeated names and surrogates to each implementation (sections 4, 8.2 and 9).
use Rattle.std.specs.Prelude.{◌≡◌, ℕ, suc, ◌<◌, max, List, [], ◌∷◌, length, Some, slice_get, IsUtf8}
use Rattle.json_text.specs.Tree.{Name, Num, Str, Tree, Leaf, Arr, Obj, Elements, NoElement, Element, Members, NoMember, Member}
use Rattle.decimal_order.specs.Limits.{IsWithinLimits}
use Rattle.json_text.specs.Grammar.{IsText}
use Rattle.json_text.specs.Parts.{HasPart, IsNameOf}
use Rattle.json_text.specs.Meaning.{Means, HasLone}
use Rattle.json_text.specs.declared.tape.TextFault.{TextFault}
use Rattle.json_text.specs.declared.tape.TextFault.TheVariants.{TooLong, NotUtf8, NotJson, TooDeep, NumberLimit, LoneSurrogate, DuplicateName, Memory}

-- the limits of a text: its bytes and its depth
abbrev pub text_limit : ℕ
text_limit = 4194304

abbrev pub depth_limit : ℕ
depth_limit = 256

-- a scalar has depth 0, an empty container 1, and another container one more than its deepest child
abbrev mutual
  pub depth : Tree → ℕ
  depth (Leaf s c) = 0
  depth (Arr s es) = suc (depth_of_elements es)
  depth (Obj s ms) = suc (depth_of_members ms)

  pub depth_of_elements : Elements → ℕ
  depth_of_elements NoElement = 0
  depth_of_elements (Element t es) = max (depth t) (depth_of_elements es)

  pub depth_of_members : Members → ℕ
  depth_of_members NoMember = 0
  depth_of_members (Member n t ms) = max (depth t) (depth_of_members ms)

abbrev pub names : Members → List Name
names NoMember = []
names (Member n t ms) = n ∷ names ms

-- the number's text is not within the limits
abbrev pub BreaksLimit : Tree → Type 0
BreaksLimit (Leaf s Num) = IsWithinLimits s.bytes → ⊥
BreaksLimit _ = ⊥

-- a string or a name of this value means nothing
abbrev pub SpellsLone : Tree → Type 0
SpellsLone (Leaf s (Str cs)) = HasLone cs
SpellsLone (Obj s ms) = (n : Name) × IsNameOf ms n × HasLone n.characters
SpellsLone _ = ⊥

-- two names of this object mean the same
abbrev pub HasTwins : Tree → Type 0
HasTwins (Obj s ms) = (j k : ℕ) × (m n : Name) × (meaning : List ℕ) × (j < k) × (slice_get (names ms) j ≡ Some m) × (slice_get (names ms) k ≡ Some n)
    × Means m.characters meaning × Means n.characters meaning
HasTwins _ = ⊥

-- the refusal applies to the text
abbrev pub Applies : List ℕ → TextFault → Type 0
Applies text TooLong = text_limit < length text
Applies text NotUtf8 = IsUtf8 text → ⊥
Applies text NotJson = (t : Tree) → IsText text t → ⊥
Applies text TooDeep = (t : Tree) × IsText text t × (depth_limit < depth t)
Applies text NumberLimit = (t part : Tree) × IsText text t × HasPart t part × BreaksLimit part
Applies text LoneSurrogate = (t part : Tree) × IsText text t × HasPart t part × SpellsLone part
Applies text DuplicateName = (t part : Tree) × IsText text t × HasPart t part × HasTwins part
Applies text Memory = ⊥

-- the order of the refusals
abbrev pub rank : TextFault → ℕ
rank TooLong = 0
rank NotUtf8 = 1
rank NotJson = 2
rank TooDeep = 3
rank NumberLimit = 4
rank LoneSurrogate = 5
rank DuplicateName = 6
rank Memory = 7

-- it applies, and none before it does
abbrev pub IsRefused : List ℕ → TextFault → Type 0
IsRefused text f = Applies text f × ((g : TextFault) → rank g < rank f → Applies text g → ⊥)

-- no refusal applies
abbrev pub IsFaultless : List ℕ → Type 0
IsFaultless text = (f : TextFault) → Applies text f → ⊥

-- the text spells this tree, and no refusal applies
abbrev pub IsAccepted : List ℕ → Tree → Type 0
IsAccepted text t = IsText text t × IsFaultless text
