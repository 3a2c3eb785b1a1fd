-- Marks of values among others: what a comparison with one of these can tell of them.
use Rattle.std.specs.Prelude.{ℕ, ◌+◌, ◌*◌, List, [], ◌∷◌, length, Bool, true, false, ◌&&◌, ◌||◌, Option, Some}
use Rattle.std.specs.Ordering.{is_eq}
use Rattle.path_grammar.specs.Tree.{Literal}
use Rattle.path_meaning.specs.Comparison.{Value, literal_value}
use Rattle.decisions.specs.Order.{kind, value_cmp}
use Rattle.decisions.specs.Places.{place}

-- the kind of a value and its place, together: of values of two kinds that with the lower one has no higher place
abbrev pub mark : List (Option Value) → Option Value → ℕ
mark vs v = kind v + place value_cmp vs v

-- the marks of two values in one number
abbrev pub cell : List (Option Value) → (v w : Option Value) → ℕ
cell vs v w = mark vs v * (2 * length vs + 7) + mark vs w

-- some value ties with the literal
abbrev pub is_among : List (Option Value) → Literal → Bool
is_among [] l = false
is_among (v ∷ vs) l = is_eq (value_cmp v (Some (literal_value l))) || is_among vs l

abbrev pub are_among : List (Option Value) → List Literal → Bool
are_among vs [] = true
are_among vs (l ∷ ls) = is_among vs l && are_among vs ls
