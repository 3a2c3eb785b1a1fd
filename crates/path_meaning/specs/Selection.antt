-- What a selector selects from one node (RFC 9535, section 2.3).
use Rattle.std.specs.Prelude.{ℕ, zero, suc, ◌-◌, ◌%◌, List, [], ◌∷◌, Bool, ◌&&◌, length, reverse, Option, Some, None, if◌then◌else◌, ℤ, pos, negsuc, ◌+ℤ◌, ◌-ℤ◌, neg_ℤ, unsigned_abs, nat_lt, nat_eq, int_le, int_lt}
use Rattle.std.specs.Int.{int_min, int_max}
use Rattle.path_grammar.specs.declared.ast.IntLit.{IntLit}
use Rattle.path_grammar.specs.declared.ast.IntLit.TheVariants.{Within, Beyond}
use Rattle.json_text.specs.Nodes.{Node}

-- ---- Indexes (section 2.3.3)

-- element i
abbrev pub nth : ℕ → List Node → List Node
nth i [] = []
nth zero (n ∷ ns) = n ∷ []
nth (suc i) (n ∷ ns) = nth i ns

-- the place of an index among n elements: i, or n + i where it is negative; none outside. `negsuc i` is -(i + 1)
abbrev pub position_in : ℤ → ℕ → Option ℕ
position_in (pos i) n = if nat_lt i n then Some i else None
position_in (negsuc i) n = if nat_lt i n then Some (n - suc i) else None

abbrev pub nth_if : Option ℕ → List Node → List Node
nth_if None ns = []
nth_if (Some i) ns = nth i ns

abbrev pub at_index : IntLit → List Node → List Node
at_index Beyond ns = []
at_index (Within i) ns = nth_if (position_in i (length ns)) ns

-- ---- Slices (section 2.3.4)

-- those whose place, counted from i, passes a test
abbrev pub picked : (ℕ → Bool) → ℕ → List Node → List Node
picked p i [] = []
picked p i (n ∷ ns) = if p i then n ∷ picked p (suc i) ns else picked p (suc i) ns

-- a bound below 0 counts from the end (section 2.3.4.2.2)
abbrev pub normalize : (i : ℤ) (len : ℕ) → ℤ
normalize i len = if int_le (pos 0) i then i else pos len +ℤ i

-- The bounds of what is selected: MIN(MAX(.., 0), len) with a step that is not below 0, and MIN(MAX(.., -1), len - 1) with one
-- that is. `negsuc 0` is -1; `stop` is what the RFC calls `end`.
abbrev pub lower : (start stop step : ℤ) (len : ℕ) → ℤ
lower start stop step len =
    if int_le (pos 0) step then int_min (int_max (normalize start len) (pos 0)) (pos len)
    else int_min (int_max (normalize stop len) (negsuc 0)) (pos len -ℤ pos 1)

abbrev pub upper : (start stop step : ℤ) (len : ℕ) → ℤ
upper start stop step len =
    if int_le (pos 0) step then int_min (int_max (normalize stop len) (pos 0)) (pos len)
    else int_min (int_max (normalize start len) (negsuc 0)) (pos len -ℤ pos 1)

abbrev pub is_multiple : (distance step : ℤ) → Bool
is_multiple distance step = nat_eq (unsigned_abs distance % unsigned_abs step) 0

-- lower <= i < upper, and i - lower a multiple of the step; with a step below 0, lower < i <= upper, and upper - i a multiple of it
abbrev pub is_selected : (lower upper step : ℤ) → ℕ → Bool
is_selected lower upper step i =
    if int_le (pos 0) step then int_le lower (pos i) && int_lt (pos i) upper && is_multiple (pos i -ℤ lower) step
    else int_lt lower (pos i) && int_le (pos i) upper && is_multiple (upper -ℤ pos i) step

-- ascending with a step above 0, descending with one below 0, nothing with 0
abbrev pub in_order : (step : ℤ) → List Node → List Node
in_order step ns = if int_lt (pos 0) step then ns else (if int_lt step (pos 0) then reverse ns else [])

abbrev pub sliced_by : (start stop step : ℤ) → List Node → List Node
sliced_by start stop step ns =
    in_order step (picked (is_selected (lower start stop step (length ns)) (upper start stop step (length ns)) step) 0 ns)

-- what stands for a bound that is left out (section 2.3.4.2.1)
abbrev pub start_default : (step : ℤ) (len : ℕ) → ℤ
start_default step len = if int_le (pos 0) step then pos 0 else pos len -ℤ pos 1

abbrev pub stop_default : (step : ℤ) (len : ℕ) → ℤ
stop_default step len = if int_le (pos 0) step then pos len else neg_ℤ (pos len) -ℤ pos 1

-- A bound, or its default. In a valid query no number is `Beyond` the integers that a query may have: here a bound that is counts
-- as left out, and a step that is as 0.
abbrev pub bound_or : ℤ → Option IntLit → ℤ
bound_or default None = default
bound_or default (Some Beyond) = default
bound_or default (Some (Within i)) = i

abbrev pub step_of : Option IntLit → ℤ
step_of None = pos 1
step_of (Some Beyond) = pos 0
step_of (Some (Within i)) = i

unfoldable pub sliced : (start stop step : Option IntLit) → List Node → List Node
sliced start stop step ns =
    sliced_by (bound_or (start_default (step_of step) (length ns)) start) (bound_or (stop_default (step_of step) (length ns)) stop) (step_of step) ns
