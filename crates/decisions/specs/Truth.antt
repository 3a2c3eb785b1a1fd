-- What a condition says of its side's value, by how that compares with each literal.
use Rattle.std.specs.Prelude.{◌≡◌, Bool, true, false, ◌&&◌, ◌||◌, List, [], ◌∷◌, ◌++◌, Option, Some, None, nat_eq, if◌then◌else◌}
use Rattle.std.specs.Prelude.{not as opposite}
use Rattle.std.specs.Ordering.{ordering_reverse}
use Rattle.std.specs.declared.cmp.Ordering.{Ordering}
use Rattle.std.specs.declared.cmp.Ordering.TheVariants.{Equal}
use Rattle.path_grammar.specs.Tree.{Literal}
use Rattle.path_grammar.specs.declared.ast.Op.{Op}
use Rattle.path_meaning.specs.Comparison.{Value, literal_value, equal_results, less_results, compared, told, told_of}
use Rattle.decisions.specs.Order.{kind, value_cmp}
use Rattle.decisions.specs.Tree.{Tested, Tests, any, each, negated, value, against, two, present, itself, rooted, no_tests, tested}
use Rattle.decisions.specs.declared.relation.Relation.{Relation}

-- whether a comparison holds where its sides are of two kinds
abbrev pub told_apart : Op → Bool
told_apart op = told_of false false false false op

-- whether it holds, by how its left side compares with its right one, and None where they are of two kinds
abbrev pub told_by : Op → Option Ordering → Bool
told_by op None = told_apart op
told_by op (Some o) = told op o

-- the other way round
abbrev pub turned : Option Ordering → Option Ordering
turned None = None
turned (Some o) = Some (ordering_reverse o)

-- the other way round where the literal stands on the left
abbrev pub turned_if : (is_turned : Bool) → Option Ordering → Option Ordering
turned_if false o = o
turned_if true o = turned o

-- whether a comparison of `@` with `$` holds, or of `$` with `@`
abbrev pub related : Relation → (turned : Bool) → Op → Bool
related r false op = told_of r.is_equal r.is_equal_back r.is_less r.is_greater op
related r true op = told_of r.is_equal_back r.is_equal r.is_greater r.is_less op

-- how values compare that are neither equal nor less nor greater
abbrev pub no_relation : Relation
no_relation = record { is_equal = false; is_equal_back = false; is_less = false; is_greater = false }

-- these two values compare so
pub record IsRelated (r : Relation) (v w : Option Value) : Type 0 where
  pub equal : r.is_equal ≡ equal_results v w
  pub back : r.is_equal_back ≡ equal_results w v
  pub less : r.is_less ≡ less_results v w
  pub greater : r.is_greater ≡ less_results w v

-- `f` says how the value compares with a literal, and None where it is of another kind; `r` says how `@` compares with `$`
module _ (f : Literal → Option Ordering) (r : Relation) where
  abbrev mutual
    -- whether a condition holds; `@` and `$` are always there
    pub truth_by : Tested → Bool
    truth_by (any ts) = some_true ts
    truth_by (each ts) = all_true ts
    truth_by (negated t) = opposite (truth_by t)
    truth_by (value op l) = told_by op (f l)
    truth_by (against l op) = told_by op (turned (f l))
    truth_by (two l op m) = compared op (Some (literal_value l)) (Some (literal_value m))
    truth_by (present from_root) = true
    truth_by (itself from_root op) = told op Equal
    truth_by (rooted turned op) = related r turned op

    pub some_true : Tests → Bool
    some_true no_tests = false
    some_true (tested t others) = truth_by t || some_true others

    pub all_true : Tests → Bool
    all_true no_tests = true
    all_true (tested t others) = truth_by t && all_true others

-- how a value, or Nothing, compares with a literal
abbrev pub versus : Option Value → Literal → Option Ordering
versus v l = if nat_eq (kind v) (kind (Some (literal_value l))) then Some (value_cmp v (Some (literal_value l))) else None

-- whether a condition holds where its side has this value
abbrev pub truth : Option Value → Relation → Tested → Bool
truth v r t = truth_by (versus v) r t

abbrev mutual
  -- the literals that stand against the side
  pub literals : Tested → List Literal
  literals (any ts) = all_literals ts
  literals (each ts) = all_literals ts
  literals (negated t) = literals t
  literals (value op l) = l ∷ []
  literals (against l op) = l ∷ []
  literals (two l op m) = []
  literals (present from_root) = []
  literals (itself from_root op) = []
  literals (rooted turned op) = []

  pub all_literals : Tests → List Literal
  all_literals no_tests = []
  all_literals (tested t others) = literals t ++ all_literals others
