-- The grammar of a query (RFC 9535, sections 2.1 to 2.5): which text spells which tree. Each production splits its whole text;
-- nothing here reads from left to right. What stands in a filter, between parentheses or in an argument list is a parameter, so
-- that these three can be counted.
use Rattle.std.specs.Prelude.{ℕ, zero, suc, List, [], ◌∷◌, ◌++◌, true, false, ◌&&◌, ◌||◌, IsTrue, Option, Some, None, codes, IsUtf8, chars}
use Rattle.std.specs.List.{list_all}
use Rattle.path_grammar.specs.Tree as tree
use Rattle.path_grammar.specs.Tree.{OneSegment, segments_of, selectors_of, exprs_of, arguments_of}
use Rattle.path_grammar.specs.Characters.{Text, Blanks, is_digit, is_first, is_lower, is_function, spaced}
use Rattle.path_grammar.specs.Lists.{Repeated, Separated}
use Rattle.path_grammar.specs.Numbers.{Int, Number}
use Rattle.path_grammar.specs.Strings.{StringLiteral}
use Rattle.path_grammar.specs.declared.ast.IntLit.{IntLit}
use Rattle.path_grammar.specs.declared.ast.Op.{Op}
use Rattle.path_grammar.specs.declared.ast.Op.TheVariants as ops

-- ---- Slices (section 2.3.4.1)

-- start or end, which may be left out; where it is there, blanks may stand behind it
pub data Bound : Text → Option IntLit → Type 0 where
  no_bound : Bound [] None
  bound : {t : Text} {i : IntLit} (b : Text) → Int t i → Blanks b → Bound (t ++ b) (Some i)

-- the step, which may be left out; where it is there, blanks may stand before it
pub data Step : Text → Option IntLit → Type 0 where
  no_step : Step [] None
  step : {t : Text} {i : IntLit} (b : Text) → Blanks b → Int t i → Step (b ++ t) (Some i)

pub data Slice : Text → tree.Selector → Type 0 where
  two_parts : {t u : Text} {start stop : Option IntLit} (b : Text) → Bound t start → Blanks b → Bound u stop → Slice (t ++ (codes ":" ++ (b ++ u))) (tree.slice start stop None)
  three_parts : {t u v : Text} {start stop step : Option IntLit} (b : Text) → Bound t start → Blanks b → Bound u stop → Step v step → Slice (t ++ (codes ":" ++ (b ++ (u ++ (codes ":" ++ v))))) (tree.slice start stop step)

-- ---- What stands alone behind a dot or two (section 2.5)

-- member-name-shorthand
abbrev pub Shorthand : Text → Type 0
Shorthand [] = IsTrue false
Shorthand (c ∷ cs) = IsTrue (is_first c && list_all (λ d. is_first d || is_digit d) cs)

pub data Dotted : Text → tree.Selector → Type 0 where
  dot_every : Dotted (codes "*") tree.wild
  dot_name : (t : Text) → Shorthand t → Dotted t (tree.name t)

-- the segment of these selectors, from the children alone
abbrev pub of_children : List tree.Selector → OneSegment
of_children ss = record { descend = false; selectors = selectors_of ss }

-- and from all descendants
abbrev pub of_descendants : List tree.Selector → OneSegment
of_descendants ss = record { descend = true; selectors = selectors_of ss }

-- ---- Literals, operators and singular queries (section 2.3.5.1)

pub data Literal : Text → tree.Literal → Type 0 where
  number_literal : {t : Text} → Number t → Literal t (tree.number t)
  string_literal : {t cs : Text} → StringLiteral t cs → Literal t (tree.text cs)
  true_literal : Literal (codes "true") (tree.boolean true)
  false_literal : Literal (codes "false") (tree.boolean false)
  null_literal : Literal (codes "null") tree.null

-- comparison-op
pub data Operator : Text → Op → Type 0 where
  eq : Operator (codes "==") ops.Eq
  ne : Operator (codes "!=") ops.Ne
  le : Operator (codes "<=") ops.Le
  ge : Operator (codes ">=") ops.Ge
  lt : Operator (codes "<") ops.Lt
  gt : Operator (codes ">") ops.Gt

-- a segment of a singular query: one name or one index
pub data SingularSegment : Text → OneSegment → Type 0 where
  shorthand_segment : (t : Text) → Shorthand t → SingularSegment (codes "." ++ t) (of_children (tree.name t ∷ []))
  name_segment : {t cs : Text} (b c : Text) → Blanks b → Blanks c → StringLiteral t cs → SingularSegment (spaced (codes "[") b t c (codes "]")) (of_children (tree.name cs ∷ []))
  index_segment : {t : Text} {i : IntLit} (b c : Text) → Blanks b → Blanks c → Int t i → SingularSegment (spaced (codes "[") b t c (codes "]")) (of_children (tree.index i ∷ []))

pub data SingularQuery : Text → tree.Nested → Type 0 where
  from_root : {t : Text} {ss : List OneSegment} → Repeated SingularSegment t ss → SingularQuery (codes "$" ++ t) (tree.nested true (segments_of ss))
  from_child : {t : Text} {ss : List OneSegment} → Repeated SingularSegment t ss → SingularQuery (codes "@" ++ t) (tree.nested false (segments_of ss))

-- ---- Selectors, segments and queries, where P spells what may stand in a filter

module _ (P : Text → tree.Expr → Type 0) where
  -- (section 2.3)
  pub data Selector : Text → tree.Selector → Type 0 where
    quoted : {t cs : Text} → StringLiteral t cs → Selector t (tree.name cs)
    every : Selector (codes "*") tree.wild
    sliced : {t : Text} {s : tree.Selector} → Slice t s → Selector t s
    at : {t : Text} {i : IntLit} → Int t i → Selector t (tree.index i)
    those : {t : Text} {e : tree.Expr} (b : Text) → Blanks b → P t e → Selector (codes "?" ++ (b ++ t)) (tree.filter e)

  pub data Bracketed : Text → List tree.Selector → Type 0 where
    bracketed : {t : Text} {ss : List tree.Selector} (b c : Text) → Blanks b → Blanks c → Separated (codes ",") Selector t ss → Bracketed (spaced (codes "[") b t c (codes "]")) ss

  -- (section 2.5)
  pub data Segment : Text → OneSegment → Type 0 where
    child_bracketed : {t : Text} {ss : List tree.Selector} → Bracketed t ss → Segment t (of_children ss)
    child_dotted : {t : Text} {s : tree.Selector} → Dotted t s → Segment (codes "." ++ t) (of_children (s ∷ []))
    descendant_bracketed : {t : Text} {ss : List tree.Selector} → Bracketed t ss → Segment (codes ".." ++ t) (of_descendants ss)
    descendant_dotted : {t : Text} {s : tree.Selector} → Dotted t s → Segment (codes ".." ++ t) (of_descendants (s ∷ []))

  -- filter-query (section 2.3.5.1)
  pub data SubQuery : Text → tree.Nested → Type 0 where
    root_query : {t : Text} {ss : List OneSegment} → Repeated Segment t ss → SubQuery (codes "$" ++ t) (tree.nested true (segments_of ss))
    child_query : {t : Text} {ss : List OneSegment} → Repeated Segment t ss → SubQuery (codes "@" ++ t) (tree.nested false (segments_of ss))

-- ---- Calls and the sides of a comparison, where A spells what may stand in an argument list

module _ (A : Text → List tree.Argument → Type 0) where
  -- function-expr (section 2.4)
  pub data Call : Text → tree.Call → Type 0 where
    call : {t : Text} {xs : List tree.Argument} (c : ℕ) (cs b d : Text) → IsTrue (is_lower c && list_all is_function cs) → Blanks b → Blanks d → A t xs → Call (c ∷ (cs ++ spaced (codes "(") b t d (codes ")"))) (tree.call (c ∷ cs) (arguments_of xs))

  -- comparable (section 2.3.5.1)
  pub data Comparable : Text → tree.Comparable → Type 0 where
    of_literal : {t : Text} {l : tree.Literal} → Literal t l → Comparable t (tree.lit l)
    of_query : {t : Text} {q : tree.Nested} → SingularQuery t q → Comparable t (tree.single q)
    of_call : {t : Text} {c : tree.Call} → Call t c → Comparable t (tree.func c)

-- operands, of which one stands by itself
abbrev pub joined : (tree.Exprs → tree.Expr) → List tree.Expr → tree.Expr
joined make (e ∷ []) = e
joined make es = make (exprs_of es)

-- ---- Logical expressions and arguments (sections 2.3.5.1 and 2.4)

module _ (P : Text → tree.Expr → Type 0) (A : Text → List tree.Argument → Type 0) where
  -- what logical-not-op may stand before: paren-expr and test-expr
  pub data Negatable : Text → tree.Expr → Type 0 where
    parentheses : {t : Text} {e : tree.Expr} (b c : Text) → Blanks b → Blanks c → P t e → Negatable (spaced (codes "(") b t c (codes ")")) e
    query_test : {t : Text} {q : tree.Nested} → SubQuery P t q → Negatable t (tree.test q)
    call_test : {t : Text} {c : tree.Call} → Call A t c → Negatable t (tree.test_call c)

  -- basic-expr
  pub data Basic : Text → tree.Expr → Type 0 where
    plain : {t : Text} {e : tree.Expr} → Negatable t e → Basic t e
    negated : {t : Text} {e : tree.Expr} (b : Text) → Blanks b → Negatable t e → Basic (codes "!" ++ (b ++ t)) (tree.not e)
    comparison : {t u o : Text} {op : Op} {x y : tree.Comparable} (b c : Text) → Comparable A t x → Blanks b → Operator o op → Blanks c → Comparable A u y → Basic (spaced t b o c u) (tree.compare x op y)

  -- logical-and-expr
  pub data AndExpr : Text → tree.Expr → Type 0 where
    and_expr : {t : Text} {es : List tree.Expr} → Separated (codes "&&") Basic t es → AndExpr t (joined tree.each es)

  -- logical-or-expr
  pub data OrExpr : Text → tree.Expr → Type 0 where
    or_expr : {t : Text} {es : List tree.Expr} → Separated (codes "||") AndExpr t es → OrExpr t (joined tree.any es)

  -- function-argument: the first of its alternatives that reads all of it
  pub data Argument : Text → tree.Argument → Type 0 where
    literal_argument : {t : Text} {l : tree.Literal} → Literal t l → Argument t (tree.lit_argument l)
    query_argument : {t : Text} {q : tree.Nested} → ((l : tree.Literal) → ¬ Literal t l) → SubQuery P t q → Argument t (tree.nodes_argument q)
    call_argument : {t : Text} {c : tree.Call} → ((l : tree.Literal) → ¬ Literal t l) → ((q : tree.Nested) → ¬ SubQuery P t q) → Call A t c → Argument t (tree.func_argument c)
    logical_argument : {t : Text} {e : tree.Expr} → ((l : tree.Literal) → ¬ Literal t l) → ((q : tree.Nested) → ¬ SubQuery P t q) → ((c : tree.Call) → ¬ Call A t c) → OrExpr t e → Argument t (tree.logical_argument e)

  -- what stands between the parentheses of a call, without the blanks around it
  pub data Arguments : Text → List tree.Argument → Type 0 where
    no_arguments : Arguments [] []
    arguments : {t : Text} {xs : List tree.Argument} → Separated (codes ",") Argument t xs → Arguments t xs

-- ---- Levels: a filter, parentheses and an argument list are one level each, and n levels are left

abbrev mutual
  pub Condition : ℕ → Text → tree.Expr → Type 0
  Condition zero t e = ⊥
  Condition (suc n) t e = OrExpr (Condition n) (ArgumentList n) t e

  pub ArgumentList : ℕ → Text → List tree.Argument → Type 0
  ArgumentList zero t xs = ⊥
  ArgumentList (suc n) t xs = Arguments (Condition n) (ArgumentList n) t xs

-- ---- A query (section 2.1.1), of at most 32 levels

pub data Spells : Text → tree.Segments → Type 0 where
  query : {t : Text} {ss : List OneSegment} → Repeated (Segment (Condition 32)) t ss → Spells (codes "$" ++ t) (segments_of ss)

-- the bytes are UTF-8 and spell the tree
pub record IsQuery (bytes : List ℕ) (q : tree.Segments) : Type 0 where
  pub utf8 : IsUtf8 bytes
  pub spells : Spells (chars bytes) q
