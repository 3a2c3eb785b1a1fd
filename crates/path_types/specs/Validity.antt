-- Which queries are valid (RFC 9535, sections 2.1, 2.3.5.1 and 2.4.3): a property of any syntax tree.
use Rattle.std.specs.Prelude.{ℕ, List, Bool, true, false, ◌&&◌, ◌||◌, Option, Some, None, codes, nat_le, pos, negsuc, bytes_eq}
use Rattle.path_grammar.specs.Tree.{Literal, number, text, boolean, null, Segments, no_segments, segment, Selectors, no_selectors, selector, Selector, name, wild, index, filter, slice, Expr, any, each, not, compare, test, test_call, Exprs, no_exprs, expr, Nested, nested, Comparable, lit, single, func, Call, call, Arguments, no_arguments, argument, Argument, lit_argument, nodes_argument, func_argument, logical_argument}
use Rattle.path_grammar.specs.declared.ast.IntLit.{IntLit}
use Rattle.path_grammar.specs.declared.ast.IntLit.TheVariants.{Within, Beyond}
use Rattle.path_types.specs.Numbers.{is_number}
pub use Rattle.path_grammar.specs.Singular.{is_one, is_singular, is_singular_query}

-- a number of an index or a slice, in the range of exact doubles: -9007199254740991 to 9007199254740991; `negsuc n` is -(n + 1)
abbrev pub is_int : IntLit → Bool
is_int (Within (pos n)) = nat_le n 9007199254740991
is_int (Within (negsuc n)) = nat_le n 9007199254740990
is_int Beyond = false

-- a part of a slice, which may be left out
abbrev pub is_bound : Option IntLit → Bool
is_bound None = true
is_bound (Some i) = is_int i

abbrev pub is_literal : Literal → Bool
is_literal (number digits) = is_number digits
is_literal (text scalars) = true
is_literal (boolean b) = true
is_literal null = true

-- the names of the functions
abbrev pub is_length : List ℕ → Bool
is_length f = bytes_eq f (codes "length")

abbrev pub is_count_or_value : List ℕ → Bool
is_count_or_value f = bytes_eq f (codes "count") || bytes_eq f (codes "value")

abbrev mutual
  pub is_valid : Segments → Bool
  is_valid no_segments = true
  is_valid (segment descend ss others) = are_valid ss && is_valid others

  pub are_valid : Selectors → Bool
  are_valid no_selectors = true
  are_valid (selector s ss) = is_valid_selector s && are_valid ss

  pub is_valid_selector : Selector → Bool
  is_valid_selector (name scalars) = true
  is_valid_selector wild = true
  is_valid_selector (index i) = is_int i
  is_valid_selector (filter e) = is_valid_expr e
  is_valid_selector (slice start stop step) = is_bound start && is_bound stop && is_bound step

  -- no function gives a logical value, so a call is no test
  pub is_valid_expr : Expr → Bool
  is_valid_expr (any es) = are_valid_exprs es
  is_valid_expr (each es) = are_valid_exprs es
  is_valid_expr (not e) = is_valid_expr e
  is_valid_expr (compare a op b) = is_valid_comparable a && is_valid_comparable b
  is_valid_expr (test q) = is_valid_nested q
  is_valid_expr (test_call c) = false

  pub are_valid_exprs : Exprs → Bool
  are_valid_exprs no_exprs = true
  are_valid_exprs (expr e es) = is_valid_expr e && are_valid_exprs es

  pub is_valid_nested : Nested → Bool
  is_valid_nested (nested from_root ss) = is_valid ss

  pub is_valid_comparable : Comparable → Bool
  is_valid_comparable (lit l) = is_literal l
  is_valid_comparable (single q) = is_singular_query q && is_valid_nested q
  is_valid_comparable (func c) = is_valid_call c

  pub is_valid_call : Call → Bool
  is_valid_call (call f arguments) = are_valid_arguments f arguments

  -- each function takes one argument
  pub are_valid_arguments : List ℕ → Arguments → Bool
  are_valid_arguments f no_arguments = false
  are_valid_arguments f (argument a no_arguments) = is_valid_argument f a
  are_valid_arguments f (argument a (argument b more)) = false

  -- `length` takes a value, which a literal, a singular query and a call give; `count` and `value` take the nodes of any query
  pub is_valid_argument : List ℕ → Argument → Bool
  is_valid_argument f (lit_argument l) = is_length f && is_literal l
  is_valid_argument f (nodes_argument q) = is_valid_nested q && (is_length f && is_singular_query q || is_count_or_value f)
  is_valid_argument f (func_argument c) = is_length f && is_valid_call c
  is_valid_argument f (logical_argument e) = false
