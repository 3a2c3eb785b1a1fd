-- Conditions that compare one side with literals, as trees.
use Rattle.std.specs.Prelude.{ℕ, ◌+◌, Bool, true, false, ◌||◌, List, [], ◌∷◌}
use Rattle.std.specs.Prelude.{not as opposite}
use Rattle.path_grammar.specs.Tree as tree
use Rattle.path_grammar.specs.Tree.{Literal, Comparable, Expr, Exprs}
use Rattle.path_grammar.specs.declared.ast.Op.{Op}

mutual
  -- `||` and `&&` over their operands, `!`, the side against a literal, a literal against the side, two literals, `@` or `$` by itself,
  -- one of these with itself, `@` with `$` or `$` with `@`
  pub data Tested : Type 0 where
    any : (operands : Tests) → Tested
    each : (operands : Tests) → Tested
    negated : (operand : Tested) → Tested
    value : (op : Op) (literal : Literal) → Tested
    against : (literal : Literal) (op : Op) → Tested
    two : (left : Literal) (op : Op) (right : Literal) → Tested
    present : (from_root : Bool) → Tested
    itself : (from_root : Bool) (op : Op) → Tested
    rooted : (turned : Bool) (op : Op) → Tested

  pub data Tests : Type 0 where
    no_tests : Tests
    tested : (first : Tested) (others : Tests) → Tests

abbrev pub tests_of : List Tested → Tests
tests_of [] = no_tests
tests_of (t ∷ ts) = tested t (tests_of ts)

-- `@` or `$`
abbrev pub alone : (from_root : Bool) → Comparable
alone from_root = tree.single (tree.nested from_root tree.no_segments)

-- the expression, where this is the side
module _ (side : Comparable) where
  abbrev mutual
    pub expr_of : Tested → Expr
    expr_of (any ts) = tree.any (exprs_of_tests ts)
    expr_of (each ts) = tree.each (exprs_of_tests ts)
    expr_of (negated t) = tree.not (expr_of t)
    expr_of (value op l) = tree.compare side op (tree.lit l)
    expr_of (against l op) = tree.compare (tree.lit l) op side
    expr_of (two l op m) = tree.compare (tree.lit l) op (tree.lit m)
    expr_of (present from_root) = tree.test (tree.nested from_root tree.no_segments)
    expr_of (itself from_root op) = tree.compare (alone from_root) op (alone from_root)
    expr_of (rooted turned op) = tree.compare (alone turned) op (alone (opposite turned))

    pub exprs_of_tests : Tests → Exprs
    exprs_of_tests no_tests = tree.no_exprs
    exprs_of_tests (tested t others) = tree.expr (expr_of t) (exprs_of_tests others)

-- these operands with `||` between them, or with `&&`
abbrev pub listed : (is_any : Bool) → Exprs → Expr
listed true es = tree.any es
listed false es = tree.each es

-- how often the side is written
abbrev mutual
  pub uses : Tested → ℕ
  uses (any ts) = all_uses ts
  uses (each ts) = all_uses ts
  uses (negated t) = uses t
  uses (value op l) = 1
  uses (against l op) = 1
  uses (two l op m) = 0
  uses (present from_root) = 0
  uses (itself from_root op) = 0
  uses (rooted turned op) = 0

  pub all_uses : Tests → ℕ
  all_uses no_tests = 0
  all_uses (tested t others) = uses t + all_uses others

-- whether `@` is compared with `$`
abbrev mutual
  pub meets_root : Tested → Bool
  meets_root (any ts) = some_meet ts
  meets_root (each ts) = some_meet ts
  meets_root (negated t) = meets_root t
  meets_root (value op l) = false
  meets_root (against l op) = false
  meets_root (two l op m) = false
  meets_root (present from_root) = false
  meets_root (itself from_root op) = false
  meets_root (rooted turned op) = true

  pub some_meet : Tests → Bool
  some_meet no_tests = false
  some_meet (tested t others) = meets_root t || some_meet others
