-- Where a value stands among others.
use Rattle.std.specs.Prelude.{◌≡◌, ℕ, ◌+◌, ◌*◌, ◌<◌, Bool, false, List, [], length, slice_index_or, Option, Some, None, nat_eq, if◌then◌else◌}
use Rattle.std.specs.List.{All, Contains, count_by}
use Rattle.std.specs.Ordering.{nat_cmp, is_lt, is_le}
use Rattle.std.specs.declared.cmp.Ordering.{Ordering}
use Rattle.std.specs.declared.cmp.Ordering.TheVariants.{Equal}
use Rattle.path_grammar.specs.Tree.{Literal}
use Rattle.path_meaning.specs.Comparison.{Value, literal_value}
use Rattle.decisions.specs.Order.{kind, value_cmp}
use Rattle.decisions.specs.Tree.{Tested}
use Rattle.decisions.specs.Truth.{truth_by, literals}
use Rattle.decisions.specs.declared.relation.Relation.{Relation}

-- how many of xs are below v, and how many are at most v, together: odd at one of several different ones, even between two
abbrev pub place : {K : Type 0} → (K → K → Ordering) → List K → K → ℕ
place cmp xs v = count_by (λ x. is_lt (cmp x v)) xs + count_by (λ x. is_le (cmp x v)) xs

-- some element ties with the value, though it may be another, as 1.0 ties with 1
abbrev pub HasTie : {K : Type 0} → (K → K → Ordering) → List K → K → Type 0
HasTie cmp xs v = (k : ℕ) × (k < length xs) × (cmp (slice_index_or xs k v) v ≡ Equal)

-- how what stands at a place among values, and is of a kind, compares with a literal
abbrev pub from_place : List (Option Value) → (k p : ℕ) → Literal → Option Ordering
from_place vs k p l = if nat_eq k (kind (Some (literal_value l))) then Some (nat_cmp p (place value_cmp vs (Some (literal_value l)))) else None

-- a cell for each place among so many values, with what `f` says there
pub record AreCells (count : ℕ) (cells : List Bool) (f : ℕ → Bool) : Type 0 where
  pub sized : length cells ≡ 2 * count + 1
  pub right : (p : ℕ) → p < length cells → slice_index_or cells p false ≡ f p

-- The literals of a condition are among the values, and the tables have its truth for each kind and place, where `@` compares so with `$`.
pub record Decides (vs : List (Option Value)) (tables : List (List Bool)) (r : Relation) (t : Tested) : Type 0 where
  pub known : All (λ l. Contains vs (Some (literal_value l))) (literals t)
  pub kinds : length tables ≡ 7
  pub right : (k : ℕ) → k < length tables → AreCells (length vs) (slice_index_or tables k []) (λ p. truth_by (from_place vs k p) r t)
