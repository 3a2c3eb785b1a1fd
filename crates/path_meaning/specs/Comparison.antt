-- Comparison of values (RFC 9535, section 2.3.5.2.2).
use Rattle.std.specs.Prelude.{◌≡◌, ℕ, List, [], ◌∷◌, Bool, true, false, ◌&&◌, ◌||◌, Option, Some, None, bytes_eq, nat_lt, nat_eq}
use Rattle.std.specs.Prelude.{not as opposite}
use Rattle.std.specs.Ordering.{is_eq, is_lt, is_gt}
use Rattle.std.specs.declared.cmp.Ordering.{Ordering}
use Rattle.path_grammar.specs.Tree.{Literal, number, text, boolean, null}
use Rattle.path_grammar.specs.declared.ast.Op.{Op}
use Rattle.path_grammar.specs.declared.ast.Op.TheVariants.{Eq, Ne, Le, Ge, Lt, Gt}
use Rattle.json_text.specs.Tree.{Null, True, False, Num, Str, Tree, Leaf, Arr, Obj, Elements, NoElement, Element, Members, NoMember, Member}
use Rattle.json_text.specs.Meaning.{meaning}
use Rattle.json_text.specs.Tape.{member_count}
use Rattle.decimal_order.specs.Order.{number_cmp}

-- ---- Values

-- a value, apart from where it comes from: a number by its text, a string by its scalar values, an array or an object
pub data Value : Type 0 where
  a_null : Value
  a_boolean : (is_true : Bool) → Value
  a_number : (text : List ℕ) → Value
  a_text : (scalars : List ℕ) → Value
  a_container : Tree → Value

abbrev pub value_of : Tree → Value
value_of (Leaf s Null) = a_null
value_of (Leaf s True) = a_boolean true
value_of (Leaf s False) = a_boolean false
value_of (Leaf s Num) = a_number s.bytes
value_of (Leaf s (Str cs)) = a_text (meaning cs)
value_of (Arr s es) = a_container (Arr s es)
value_of (Obj s ms) = a_container (Obj s ms)

abbrev pub literal_value : Literal → Value
literal_value (number digits) = a_number digits
literal_value (text scalars) = a_text scalars
literal_value (boolean b) = a_boolean b
literal_value null = a_null

-- ---- Equality

-- null, true and false by themselves, numbers by their decimal values, strings by their scalar values
abbrev pub equal_primitives : Value → Value → Bool
equal_primitives a_null a_null = true
equal_primitives (a_boolean true) (a_boolean b) = b
equal_primitives (a_boolean false) (a_boolean b) = opposite b
equal_primitives (a_number s) (a_number t) = is_eq (number_cmp s t)
equal_primitives (a_text s) (a_text t) = bytes_eq s t
equal_primitives _ _ = false

-- some member of this name has a value that passes the test
abbrev pub has_member : (name : List ℕ) → (Tree → Bool) → Members → Bool
has_member name passes NoMember = false
has_member name passes (Member n t others) = (bytes_eq name (meaning n.characters) && passes t) || has_member name passes others

abbrev mutual
  -- Primitive values as above; arrays element by element; objects with as many members, each of which has one of its name and
  -- of an equal value in the other. Values of different kinds differ.
  pub equal_trees : Tree → Tree → Bool
  equal_trees (Leaf s c) (Leaf u d) = equal_primitives (value_of (Leaf s c)) (value_of (Leaf u d))
  equal_trees (Arr s es) (Arr u fs) = equal_elements es fs
  equal_trees (Obj s ms) (Obj u os) = nat_eq (member_count ms) (member_count os) && each_in ms os
  equal_trees _ _ = false

  pub equal_elements : Elements → Elements → Bool
  equal_elements NoElement NoElement = true
  equal_elements (Element a es) (Element b fs) = equal_trees a b && equal_elements es fs
  equal_elements _ _ = false

  pub each_in : Members → Members → Bool
  each_in NoMember os = true
  each_in (Member n t ms) os = has_member (meaning n.characters) (λ u. equal_trees t u) os && each_in ms os

abbrev pub equal_values : Value → Value → Bool
equal_values (a_container t) (a_container u) = equal_trees t u
equal_values a b = equal_primitives a b

-- Nothing is equal to Nothing alone
abbrev pub equal_results : Option Value → Option Value → Bool
equal_results None None = true
equal_results (Some a) (Some b) = equal_values a b
equal_results _ _ = false

-- ---- Order

-- The empty string comes before each other. Of two others the one with the lower first scalar value comes first, and where
-- these are the same the rest decides.
abbrev pub less_scalars : List ℕ → List ℕ → Bool
less_scalars cs [] = false
less_scalars [] (d ∷ ds) = true
less_scalars (c ∷ cs) (d ∷ ds) = nat_lt c d || (nat_eq c d && less_scalars cs ds)

-- only numbers and strings have an order
abbrev pub less_values : Value → Value → Bool
less_values (a_number s) (a_number t) = is_lt (number_cmp s t)
less_values (a_text s) (a_text t) = less_scalars s t
less_values _ _ = false

abbrev pub less_trees : Tree → Tree → Bool
less_trees t u = less_values (value_of t) (value_of u)

-- Nothing comes neither before nor after
abbrev pub less_results : Option Value → Option Value → Bool
less_results (Some a) (Some b) = less_values a b
less_results _ _ = false

-- ---- The operators

abbrev pub compared : Op → Option Value → Option Value → Bool
compared Eq a b = equal_results a b
compared Ne a b = opposite (equal_results a b)
compared Lt a b = less_results a b
compared Gt a b = less_results b a
compared Le a b = less_results a b || equal_results a b
compared Ge a b = less_results b a || equal_results b a

-- ---- The operators by what they ask of two sides

-- whether a comparison holds, by whether its sides are equal, either way round, the left one is less, and the right one
abbrev pub told_of : (equal back less greater : Bool) → Op → Bool
told_of equal back less greater Eq = equal
told_of equal back less greater Ne = opposite equal
told_of equal back less greater Lt = less
told_of equal back less greater Gt = greater
told_of equal back less greater Le = less || equal
told_of equal back less greater Ge = greater || back

-- by how the sides stand in an order
abbrev pub told : Op → Ordering → Bool
told op o = told_of (is_eq o) (is_eq o) (is_lt o) (is_gt o) op

-- each comparison of two values is told by these four facts about them
abbrev pub TellsComparisons : Type 0
TellsComparisons = (op : Op) (a b : Option Value) → compared op a b ≡ told_of (equal_results a b) (equal_results b a) (less_results a b) (less_results b a) op
