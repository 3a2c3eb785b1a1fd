-- Conditions that are charged nothing, and that the marks of `@` and its length tell.
use Rattle.std.specs.Prelude.{◌≡◌, ℕ, List, [], ◌∷◌, ◌++◌, map, length, Bool, true, false, ◌&&◌, ◌||◌, Option, Some, IsTrue, decimal}
use Rattle.path_grammar.specs.Tree.{Literal, number, text, boolean, null, Nested, nested, no_segments, segment, Comparable, lit, single, func, Call, call, Arguments, no_arguments, argument, Argument, lit_argument, nodes_argument, func_argument, logical_argument, Expr, any, each, not, compare, test, test_call, Exprs, no_exprs, expr}
use Rattle.json_text.specs.Nodes.{Node}
use Rattle.path_meaning.specs.Comparison.{Value, value_of}
use Rattle.path_meaning.specs.Functions.{length_value, whole_number}
use Rattle.decisions.specs.Marks.{cell, are_among}
use Rattle.decisions.specs.Truth.{IsRelated, no_relation}
use Rattle.decisions.specs.Views.{constant_value}
use Rattle.decisions.specs.declared.scale.Scale.{Scale}

-- ---- Sides

-- `@` or `$` by itself
abbrev pub is_alone : Nested → Bool
is_alone (nested from_root no_segments) = true
is_alone (nested from_root (segment descend ss others)) = false

-- calls of these, of literals and of such calls
abbrev mutual
  pub is_free_call : Call → Bool
  is_free_call (call f arguments) = are_free arguments

  pub are_free : Arguments → Bool
  are_free no_arguments = true
  are_free (argument a others) = is_free_argument a && are_free others

  pub is_free_argument : Argument → Bool
  is_free_argument (lit_argument l) = true
  is_free_argument (nodes_argument q) = is_alone q
  is_free_argument (func_argument c) = is_free_call c
  is_free_argument (logical_argument e) = false

abbrev pub is_free : Comparable → Bool
is_free (lit l) = true
is_free (single q) = is_alone q
is_free (func c) = is_free_call c

abbrev pub is_written : Comparable → Bool
is_written (lit l) = true
is_written (single q) = false
is_written (func c) = false

-- two such sides, of which one is a literal where others may not be compared
abbrev pub is_told_pair : (is_rooted : Bool) → (left right : Comparable) → Bool
is_told_pair is_rooted a b = (is_written a || (is_written b || is_rooted)) && (is_free a && is_free b)

-- ---- Conditions

module _ (is_rooted : Bool) where
  abbrev mutual
    pub is_told : Expr → Bool
    is_told (any es) = are_told es
    is_told (each es) = are_told es
    is_told (not e) = is_told e
    is_told (compare a op b) = is_told_pair is_rooted a b
    is_told (test q) = is_alone q
    is_told (test_call c) = false

    pub are_told : Exprs → Bool
    are_told no_exprs = true
    are_told (expr e others) = is_told e && are_told others

-- ---- Literals

abbrev pub whole : ℕ → Literal
whole n = number (decimal n)

-- what a call counts of `@` or `$`, and of no nodes
abbrev pub totals : List Literal
totals = whole 0 ∷ whole 1 ∷ []

abbrev pub literal_lengths : Literal → List Literal
literal_lengths (number digits) = []
literal_lengths (text scalars) = whole (length scalars) ∷ []
literal_lengths (boolean b) = []
literal_lengths null = []

abbrev pub argument_lengths : Argument → List Literal
argument_lengths (lit_argument l) = literal_lengths l
argument_lengths (nodes_argument q) = []
argument_lengths (func_argument c) = []
argument_lengths (logical_argument e) = []

abbrev pub lengths : Arguments → List Literal
lengths no_arguments = []
lengths (argument a others) = argument_lengths a ++ lengths others

abbrev pub call_lengths : Call → List Literal
call_lengths (call f arguments) = lengths arguments

-- a literal, or the length of the string that a call is of
abbrev pub side_literals : Comparable → List Literal
side_literals (lit l) = l ∷ []
side_literals (single q) = []
side_literals (func c) = call_lengths c

abbrev mutual
  -- the literals that are compared
  pub literals : Expr → List Literal
  literals (any es) = all_literals es
  literals (each es) = all_literals es
  literals (not e) = literals e
  literals (compare a op b) = side_literals a ++ side_literals b
  literals (test q) = []
  literals (test_call c) = []

  pub all_literals : Exprs → List Literal
  all_literals no_exprs = []
  all_literals (expr e others) = literals e ++ all_literals others

-- ---- Marks

abbrev pub values_on : Scale → List (Option Value)
values_on s = map constant_value s.literals.items

-- what a condition compares stands on the scale, if it is the same in each document
abbrev pub is_told_on : Scale → Expr → Bool
is_told_on s e = is_told s.is_rooted e && are_among (values_on s) (totals ++ literals e)

abbrev pub are_told_on : Scale → Exprs → Bool
are_told_on s es = are_told s.is_rooted es && are_among (values_on s) (totals ++ all_literals es)

abbrev pub beside : Bool → Option Value → List (Option Value) → List (Option Value)
beside false v vs = vs
beside true v vs = v ∷ vs

-- and the length of `$`, where sides that are no literals may be compared
abbrev pub values_in : (root : Node) → Scale → List (Option Value)
values_in root s = beside s.is_rooted (length_value (Some (value_of root.tree))) (values_on s)

-- neither equal nor less nor greater
abbrev pub AreApart : (v w : Option Value) → Type 0
AreApart v w = IsRelated no_relation v w

abbrev pub HasLength : Option Value → Type 0
HasLength v = (k : ℕ) × (length_value v ≡ Some (whole_number k))

-- This is the cell of the node's value and its length. Where sides that are no literals may be compared, it is apart from that of `$`, which has a length.
pub record IsCell (root n : Node) (s : Scale) (i : ℕ) : Type 0 where
  pub marks : i ≡ cell (values_in root s) (Some (value_of n.tree)) (length_value (Some (value_of n.tree)))
  pub apart : IsTrue s.is_rooted → AreApart (Some (value_of n.tree)) (Some (value_of root.tree))
  pub long : IsTrue s.is_rooted → HasLength (Some (value_of root.tree))
