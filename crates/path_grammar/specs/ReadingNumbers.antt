-- Reading integers and numbers from left to right.
use Rattle.std.specs.Prelude.{ℕ, ◌-◌, [], ◌∷◌, take, length, Bool, true, false, ◌||◌, ◌==◌, if◌then◌else◌, Option, Some, None, pos}
use Rattle.path_grammar.specs.Characters.{Text, is_between, is_blank, is_digit}
use Rattle.path_grammar.specs.Numbers.{decimal, literal_of, negated, is_e}
use Rattle.path_grammar.specs.Reading.{Reader, ◌>>=◌, front_run, after_run, behind}
use Rattle.path_grammar.specs.declared.ast.IntLit.{IntLit}
use Rattle.path_grammar.specs.declared.ast.IntLit.TheVariants.{Within}

abbrev pub signed_literal : Bool → ℕ → IntLit
signed_literal false = literal_of pos
signed_literal true = literal_of negated

unfoldable pub digits_at : Bool → Reader IntLit
digits_at is_negative [] = None
digits_at is_negative (c ∷ t) =
    if is_between 0x31 0x39 c then Some (signed_literal is_negative (decimal (front_run is_digit (c ∷ t))), after_run is_digit (c ∷ t))
    else None

unfoldable pub int_at : Reader IntLit
int_at [] = None
int_at (c ∷ t) =
    if c == 0x30 then Some (Within (pos 0), t)
    else if c == 0x2D then digits_at true t
    else digits_at false (c ∷ t)

-- where an integer begins
abbrev pub begins_int : ℕ → Bool
begins_int c = is_digit c || c == 0x2D

-- the integer at the front and the blanks behind it, if one begins there
unfoldable pub part_at : Reader (Option IntLit)
part_at [] = Some (None, [])
part_at (c ∷ t) = if begins_int c then (int_at (c ∷ t) >>= λ x. Some (Some x.0, after_run is_blank x.1)) else Some (None, c ∷ t)

-- ---- Numbers: the text behind each of their parts

-- behind one digit or more
unfoldable pub digits_end : Text → Option Text
digits_end [] = None
digits_end (c ∷ t) = if is_digit c then Some (after_run is_digit (c ∷ t)) else None

unfoldable pub minus_zero_end : Text → Option Text
minus_zero_end t = do
  u ← behind 0x2D t
  behind 0x30 u

unfoldable pub whole_from : Text → Option Text → Option Text
whole_from t (Some u) = Some u
whole_from t None = do
  x ← int_at t
  Some x.1

unfoldable pub whole_end : Text → Option Text
whole_end t = whole_from t (minus_zero_end t)

unfoldable pub fraction_from : Text → Option Text → Option Text
fraction_from t (Some u) = digits_end u
fraction_from t None = Some t

unfoldable pub fraction_end : Text → Option Text
fraction_end t = fraction_from t (behind 0x2E t)

unfoldable pub sign_end : Text → Text
sign_end [] = []
sign_end (c ∷ t) = if c == 0x2B || c == 0x2D then t else c ∷ t

unfoldable pub exponent_end : Text → Option Text
exponent_end [] = Some []
exponent_end (c ∷ t) = if is_e c then digits_end (sign_end t) else Some (c ∷ t)

unfoldable pub number_end : Text → Option Text
number_end t = do
  u ← whole_end t
  v ← fraction_end u
  exponent_end v

-- what stands before a rest of the text
abbrev pub before : Text → Text → Text
before t rest = take (length t - length rest) t
