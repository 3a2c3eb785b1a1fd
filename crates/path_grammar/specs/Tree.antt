-- The syntax tree of a query (RFC 9535, sections 2.1 to 2.5), apart from where its parts lie in memory.
use Rattle.std.specs.Prelude.{ℕ, List, [], ◌∷◌, Bool, Option}
use Rattle.path_grammar.specs.declared.ast.IntLit.{IntLit}
use Rattle.path_grammar.specs.declared.ast.Op.{Op}

-- a literal: a number by the bytes that spell it, a string by its scalar values
pub data Literal : Type 0 where
  number : (digits : List ℕ) → Literal
  text : (scalars : List ℕ) → Literal
  boolean : Bool → Literal
  null : Literal

mutual
  -- whether the first segment descends, and its selectors; then the segments after it
  pub data Segments : Type 0 where
    no_segments : Segments
    segment : (descend : Bool) (selectors : Selectors) (others : Segments) → Segments

  pub data Selectors : Type 0 where
    no_selectors : Selectors
    selector : (first : Selector) (others : Selectors) → Selectors

  -- a selector: a name by its scalar values, all children, an element, the children for which an expression holds, or a run of elements
  pub data Selector : Type 0 where
    name : (scalars : List ℕ) → Selector
    wild : Selector
    index : (place : IntLit) → Selector
    filter : (condition : Expr) → Selector
    slice : (start stop step : Option IntLit) → Selector

  -- a logical expression: `||` and `&&` over their operands, `!`, a comparison, a query by itself, a call by itself
  pub data Expr : Type 0 where
    any : (operands : Exprs) → Expr
    each : (operands : Exprs) → Expr
    not : (operand : Expr) → Expr
    compare : (left : Comparable) (op : Op) (right : Comparable) → Expr
    test : (query : Nested) → Expr
    test_call : (function : Call) → Expr

  pub data Exprs : Type 0 where
    no_exprs : Exprs
    expr : (first : Expr) (others : Exprs) → Exprs

  -- a query in a filter, from the document's root or from the child
  pub data Nested : Type 0 where
    nested : (from_root : Bool) (segments : Segments) → Nested

  pub data Comparable : Type 0 where
    lit : Literal → Comparable
    single : Nested → Comparable
    func : Call → Comparable

  pub data Call : Type 0 where
    call : (name : List ℕ) (arguments : Arguments) → Call

  pub data Arguments : Type 0 where
    no_arguments : Arguments
    argument : (first : Argument) (others : Arguments) → Arguments

  pub data Argument : Type 0 where
    lit_argument : Literal → Argument
    nodes_argument : Nested → Argument
    func_argument : Call → Argument
    logical_argument : Expr → Argument

-- a segment by itself
pub record OneSegment : Type 0 where
  pub descend : Bool
  pub selectors : Selectors

-- the lists as lists of the tree
abbrev pub segments_of : List OneSegment → Segments
segments_of [] = no_segments
segments_of (s ∷ ss) = segment s.descend s.selectors (segments_of ss)

abbrev pub selectors_of : List Selector → Selectors
selectors_of [] = no_selectors
selectors_of (s ∷ ss) = selector s (selectors_of ss)

abbrev pub exprs_of : List Expr → Exprs
exprs_of [] = no_exprs
exprs_of (e ∷ es) = expr e (exprs_of es)

abbrev pub arguments_of : List Argument → Arguments
arguments_of [] = no_arguments
arguments_of (a ∷ others) = argument a (arguments_of others)
