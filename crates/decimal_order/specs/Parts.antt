-- The parts of a number (RFC 8259, section 6): what the crate's own steps speak of.
use Rattle.std.specs.Prelude.{◌≡◌, ℕ, ◌+◌, ◌≤◌, ◌⊎◌, ◌-ℤ◌, pos, Bool, true, false, List, [], ◌∷◌, ◌++◌, length}
use Rattle.decimal_order.specs.Number.{AreDigits, IsInt, IsE}
use Rattle.decimal_order.specs.Value.{Value, digits_value, signed}

-- the digits and signs of a number; those of a fraction or an exponent that is not there are none
pub record Parts : Type 0 where
  pub negative : Bool
  pub int : List ℕ
  pub frac : List ℕ
  pub exponent_negative : Bool
  pub exponent : List ℕ

abbrev pub MinusIs : List ℕ → Bool → Type 0
MinusIs bytes true = bytes ≡ 0x2D ∷ []
MinusIs bytes false = bytes ≡ []

abbrev pub SignIs : List ℕ → Bool → Type 0
SignIs bytes true = bytes ≡ 0x2D ∷ []
SignIs bytes false = (bytes ≡ []) ⊎ (bytes ≡ 0x2B ∷ [])

abbrev pub FracIs : List ℕ → List ℕ → Type 0
FracIs bytes [] = bytes ≡ []
FracIs bytes (d ∷ ds) = AreDigits (d ∷ ds) × (bytes ≡ 0x2E ∷ d ∷ ds)

abbrev pub ExpIs : List ℕ → Bool → List ℕ → Type 0
ExpIs bytes negative [] = (bytes ≡ []) × (negative ≡ false)
ExpIs bytes negative (d ∷ ds) = (e : ℕ) × (sign : List ℕ) × IsE e × SignIs sign negative × AreDigits (d ∷ ds) × (bytes ≡ e ∷ (sign ++ d ∷ ds))

-- the text is a number with these parts
pub record HasParts (text : List ℕ) (p : Parts) : Type 0 where
  pub minus : List ℕ
  pub frac : List ℕ
  pub exp : List ℕ
  pub is_minus : MinusIs minus p.negative
  pub is_int : IsInt p.int
  pub is_frac : FracIs frac p.frac
  pub is_exp : ExpIs exp p.exponent_negative p.exponent
  pub whole : text ≡ minus ++ (p.int ++ (frac ++ exp))

-- the digits without the point
abbrev pub digits : Parts → List ℕ
digits p = p.int ++ p.frac

abbrev pub parts_value : Parts → Value
parts_value p = record { coefficient = signed p.negative (digits_value (digits p)); exponent = signed p.exponent_negative (digits_value p.exponent) -ℤ pos (length p.frac) }

-- digits, and no more of them or a greater exponent than a number within the limits has
pub record AreWithinLimits (p : Parts) : Type 0 where
  pub int_digits : AreDigits p.int
  pub frac_digits : AreDigits p.frac
  pub exponent_digits : AreDigits p.exponent
  pub few : length p.int + length p.frac ≤ 256
  pub near : digits_value p.exponent ≤ 999999999
