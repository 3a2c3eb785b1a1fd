-- The functions of a query (RFC 9535, section 2.4), without `match` and `search`.
use Rattle.std.specs.Prelude.{ℕ, List, [], ◌∷◌, length, Option, Some, None, codes, bytes_eq, if◌then◌else◌}
use Rattle.std.specs.Fmt.{decimal}
use Rattle.json_text.specs.Tape.{length_of}
use Rattle.json_text.specs.Nodes.{Node}
use Rattle.path_meaning.specs.Comparison.{Value, a_null, a_boolean, a_number, a_text, a_container, value_of}

-- what an argument is (section 2.4.1): a value or Nothing, or a nodelist
pub data Argued : Type 0 where
  a_value : Option Value → Argued
  a_nodelist : List Node → Argued

-- the value of exactly one node, and Nothing of none or several
abbrev pub only_value : List Node → Option Value
only_value [] = None
only_value (n ∷ []) = Some (value_of n.tree)
only_value (n ∷ m ∷ ns) = None

-- a nodelist stands for a value as the singular query does that gave it (section 2.4.3)
abbrev pub value_argued : Argued → Option Value
value_argued (a_value v) = v
value_argued (a_nodelist ns) = only_value ns

abbrev pub nodes_argued : Argued → List Node
nodes_argued (a_value v) = []
nodes_argued (a_nodelist ns) = ns

abbrev pub whole_number : ℕ → Value
whole_number n = a_number (decimal n)

abbrev pub whole_number_of : Option ℕ → Option Value
whole_number_of None = None
whole_number_of (Some n) = Some (whole_number n)

-- the scalar values of a string, the elements of an array, the members of an object
abbrev pub length_value : Option Value → Option Value
length_value None = None
length_value (Some a_null) = None
length_value (Some (a_boolean b)) = None
length_value (Some (a_number text)) = None
length_value (Some (a_text scalars)) = Some (whole_number (length scalars))
length_value (Some (a_container t)) = whole_number_of (length_of t)

-- `length` (section 2.4.4), `count` (section 2.4.5) and `value` (section 2.4.8)
abbrev pub applied : (function : List ℕ) → Argued → Option Value
applied f a =
    if bytes_eq f (codes "length") then length_value (value_argued a)
    else if bytes_eq f (codes "count") then Some (whole_number (length (nodes_argued a)))
    else if bytes_eq f (codes "value") then only_value (nodes_argued a)
    else None
