-- How the parts of a number are read, from the front of its text: what the crate's own steps speak of.
use Rattle.std.specs.Prelude.{ℕ, Bool, true, false, ◌||◌, ◌==◌, if◌then◌else◌, List, [], ◌∷◌, Option, Some, None}
use Rattle.std.specs.Char.{is_ascii_digit}
use Rattle.decimal_order.specs.Value.{is_e, is_decimal_point, is_negative}
use Rattle.decimal_order.specs.Parts.{Parts}

-- the digits in front, and what follows them
abbrev pub front : List ℕ → List ℕ
front [] = []
front (b ∷ bs) = if is_ascii_digit b then b ∷ front bs else []

abbrev pub after : List ℕ → List ℕ
after [] = []
after (b ∷ bs) = if is_ascii_digit b then after bs else b ∷ bs

abbrev pub past_minus : List ℕ → List ℕ
past_minus [] = []
past_minus (b ∷ bs) = if b == 0x2D then bs else b ∷ bs

-- a plus or a minus
abbrev pub past_sign : List ℕ → List ℕ
past_sign [] = []
past_sign (b ∷ bs) = if b == 0x2D || b == 0x2B then bs else b ∷ bs

-- no digits but those of an int
abbrev pub is_int : List ℕ → Bool
is_int [] = false
is_int (b ∷ []) = true
is_int (b ∷ c ∷ cs) = if b == 0x30 then false else true

-- at least one digit, and nothing else
abbrev pub all_digits : List ℕ → List ℕ → Option (List ℕ)
all_digits (d ∷ ds) [] = Some (d ∷ ds)
all_digits (d ∷ ds) (b ∷ bs) = None
all_digits [] bs = None

-- the digits after a point, none without one, and what follows them
abbrev pub some_digits : List ℕ → List ℕ → Option (List ℕ × List ℕ)
some_digits [] bs = None
some_digits (d ∷ ds) bs = Some (d ∷ ds, bs)

abbrev pub read_frac : List ℕ → Option (List ℕ × List ℕ)
read_frac [] = Some ([], [])
read_frac (b ∷ bs) = if is_decimal_point b then some_digits (front bs) (after bs) else Some ([], b ∷ bs)

abbrev pub with_sign : Bool → Option (List ℕ) → Option (Bool × List ℕ)
with_sign negative None = None
with_sign negative (Some ds) = Some (negative, ds)

-- the sign and the digits of an exponent that is the whole rest
abbrev pub read_exp : List ℕ → Option (Bool × List ℕ)
read_exp [] = Some (false, [])
read_exp (b ∷ bs) = if is_e b then with_sign (is_negative bs) (all_digits (front (past_sign bs)) (after (past_sign bs))) else None

abbrev pub with_exp : Bool → List ℕ → List ℕ → Option (Bool × List ℕ) → Option Parts
with_exp negative int frac None = None
with_exp negative int frac (Some p) = Some (record { negative = negative; int = int; frac = frac; exponent_negative = p.0; exponent = p.1 })

abbrev pub with_frac : Bool → List ℕ → Option (List ℕ × List ℕ) → Option Parts
with_frac negative int None = None
with_frac negative int (Some p) = with_exp negative int p.0 (read_exp p.1)

unfoldable pub read : List ℕ → Option Parts
read text = if is_int (front (past_minus text)) then with_frac (is_negative text) (front (past_minus text)) (read_frac (after (past_minus text))) else None
