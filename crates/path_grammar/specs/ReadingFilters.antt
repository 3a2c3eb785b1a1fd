-- Reading logical expressions and calls from left to right, and whole queries.
use Rattle.std.specs.Prelude.{ℕ, zero, suc, List, [], ◌∷◌, Bool, true, false, ◌&&◌, ◌||◌, ◌==◌, if◌then◌else◌, Option, Some, None}
use Rattle.path_grammar.specs.Tree as tree
use Rattle.path_grammar.specs.Tree.{OneSegment, segments_of, arguments_of}
use Rattle.path_grammar.specs.Characters.{Text, is_blank, is_lower, is_function}
use Rattle.path_grammar.specs.Grammar.{joined}
use Rattle.path_grammar.specs.Singular.{is_singular_query}
use Rattle.path_grammar.specs.Reading.{Reader, ◌>>=◌, front_run, after_run, behind, closing, list_at}
use Rattle.path_grammar.specs.ReadingLiterals.{literal_at, operator_at}
use Rattle.path_grammar.specs.ReadingSegments.{begins_query, sub_query_at, segments_at}
use Rattle.path_grammar.specs.declared.ast.Op.{Op}

-- where another operand begins: behind a doubled character, with blanks around it
unfoldable pub next_operand : ℕ → Text → Option Text
next_operand k t = do
  u ← behind k (after_run is_blank t)
  v ← behind k u
  Some (after_run is_blank v)

unfoldable pub next_argument : Text → Option Text
next_argument t = do
  u ← behind 0x2C (after_run is_blank t)
  Some (after_run is_blank u)

-- the name of a call and what stands behind its parenthesis, where a call begins
unfoldable pub opens_call : Text → Option (Text × Text)
opens_call [] = None
opens_call (c ∷ t) = if is_lower c then (behind 0x28 (after_run is_function (c ∷ t)) >>= λ u. Some (front_run is_function (c ∷ t), u)) else None

-- a side stands by itself as a test, but for a literal
abbrev pub test_of : tree.Comparable → Option tree.Expr
test_of (tree.lit l) = None
test_of (tree.single q) = Some (tree.test q)
test_of (tree.func c) = Some (tree.test_call c)

unfoldable pub tested : tree.Comparable → Reader tree.Expr
tested x t = do
  e ← test_of x
  Some (e, t)

-- a side is one of a comparison, but for a query that is not singular
abbrev pub is_comparable : tree.Comparable → Bool
is_comparable (tree.lit l) = true
is_comparable (tree.single q) = is_singular_query q
is_comparable (tree.func c) = true

-- whether a literal that was read is the whole argument
unfoldable pub ends_argument : Text → Bool
ends_argument [] = false
ends_argument (c ∷ t) = c == 0x2C || c == 0x29

unfoldable pub is_parenthesis : Text → Bool
is_parenthesis [] = false
is_parenthesis (c ∷ t) = c == 0x28

-- the argument that an expression is: a query or a call by itself, where no parentheses stand around it
abbrev pub argument_of : Bool → tree.Expr → tree.Argument
argument_of false (tree.test q) = tree.nodes_argument q
argument_of false (tree.test_call c) = tree.func_argument c
argument_of _ e = tree.logical_argument e

-- ---- The readers of one level, by those of what stands a level deeper

module _ (condition : Reader tree.Expr) (arguments : Reader (List tree.Argument)) where
  -- what stands behind a parenthesis
  unfoldable pub parentheses_at : Reader tree.Expr
  parentheses_at t = do
    x ← condition (after_run is_blank t)
    closing 0x29 x.0 x.1

  unfoldable pub call_at : Text → Reader tree.Call
  call_at name t = do
    x ← arguments (after_run is_blank t)
    closing 0x29 (tree.call name (arguments_of x.0)) x.1

  unfoldable pub side_from : Text → Option (Text × Text) → Option (tree.Comparable × Text)
  side_from t (Some x) = do
    y ← call_at x.0 x.1
    Some (tree.func y.0, y.1)
  side_from t None = do
    x ← literal_at t
    Some (tree.lit x.0, x.1)

  -- a literal, a query or a call
  unfoldable pub side_at : Reader tree.Comparable
  side_at [] = None
  side_at (c ∷ t) = if begins_query c then (sub_query_at condition (c ∷ t) >>= λ x. Some (tree.single x.0, x.1)) else side_from (c ∷ t) (opens_call (c ∷ t))

  -- what may stand behind an exclamation mark
  unfoldable pub negatable_at : Reader tree.Expr
  negatable_at [] = None
  negatable_at (c ∷ t) = if c == 0x28 then parentheses_at t else (side_at (c ∷ t) >>= λ x. tested x.0 x.1)

  -- the other side of a comparison
  unfoldable pub compared_at : tree.Comparable → Op → Reader tree.Expr
  compared_at x op t = do
    y ← side_at t
    if is_comparable x && is_comparable y.0 then Some (tree.compare x op y.0, y.1) else None

  unfoldable pub basic_from : tree.Comparable → Text → Option (Op × Text) → Option (tree.Expr × Text)
  basic_from x t (Some o) = compared_at x o.0 (after_run is_blank o.1)
  basic_from x t None = tested x t

  unfoldable pub basic_at : Reader tree.Expr
  basic_at [] = None
  basic_at (c ∷ t) =
      if c == 0x21 then (negatable_at (after_run is_blank t) >>= λ x. Some (tree.not x.0, x.1))
      else if c == 0x28 then parentheses_at t
      else (side_at (c ∷ t) >>= λ x. basic_from x.0 x.1 (operator_at (after_run is_blank x.1)))

  unfoldable pub basics_at : Reader (List tree.Expr)
  basics_at t = list_at (next_operand 0x26) basic_at t

  unfoldable pub and_at : Reader tree.Expr
  and_at t = do
    xs ← basics_at t
    Some (joined tree.each xs.0, xs.1)

  unfoldable pub ands_at : Reader (List tree.Expr)
  ands_at t = list_at (next_operand 0x7C) and_at t

  unfoldable pub or_at : Reader tree.Expr
  or_at t = do
    xs ← ands_at t
    Some (joined tree.any xs.0, xs.1)

  unfoldable pub expression_argument_at : Reader tree.Argument
  expression_argument_at t = do
    x ← or_at t
    Some (argument_of (is_parenthesis t) x.0, x.1)

  -- a literal that is the whole argument, or else an expression
  unfoldable pub argument_from : Text → Option (tree.Literal × Text) → Option (tree.Argument × Text)
  argument_from t (Some x) = if ends_argument (after_run is_blank x.1) then Some (tree.lit_argument x.0, x.1) else expression_argument_at t
  argument_from t None = expression_argument_at t

  unfoldable pub argument_at : Reader tree.Argument
  argument_at t = argument_from t (literal_at t)

  unfoldable pub some_arguments_at : Reader (List tree.Argument)
  some_arguments_at t = list_at next_argument argument_at t

  unfoldable pub arguments_at : Reader (List tree.Argument)
  arguments_at [] = None
  arguments_at (c ∷ t) = if c == 0x29 then Some ([], c ∷ t) else some_arguments_at (c ∷ t)

-- ---- With n levels left

unfoldable mutual
  pub condition_in : ℕ → Reader tree.Expr
  condition_in zero t = None
  condition_in (suc n) t = or_at (condition_in n) (arguments_in n) t

  pub arguments_in : ℕ → Reader (List tree.Argument)
  arguments_in zero t = None
  arguments_in (suc n) t = arguments_at (condition_in n) (arguments_in n) t

-- ---- Queries

unfoldable pub ended : List OneSegment → Text → Option tree.Segments
ended ss [] = Some (segments_of ss)
ended ss (c ∷ t) = None

unfoldable pub query_at : Text → Option tree.Segments
query_at [] = None
query_at (c ∷ t) = if c == 0x24 then (segments_at (condition_in 32) t >>= λ x. ended x.0 x.1) else None
