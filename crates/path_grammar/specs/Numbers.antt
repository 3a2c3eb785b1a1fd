-- Integers (RFC 9535, section 2.3.3.1), with the limit on those of indexes and slices (section 2.1), and numbers of literals (section 2.3.5.1).
use Rattle.std.specs.Prelude.{ℕ, zero, suc, ◌+◌, ◌-◌, ◌*◌, [], ◌∷◌, ◌++◌, Bool, false, ◌&&◌, ◌||◌, ◌==◌, nat_le, if◌then◌else◌, IsTrue, codes, ℤ, pos, negsuc, fold}
use Rattle.std.specs.List.{list_all}
use Rattle.path_grammar.specs.Characters.{Text, is_between, is_digit}
use Rattle.path_grammar.specs.declared.ast.IntLit.{IntLit}
use Rattle.path_grammar.specs.declared.ast.IntLit.TheVariants.{Within, Beyond}

-- the number that decimal digits spell
abbrev pub with_digit : ℕ → ℕ → ℕ
with_digit n c = 10 * n + (c - 0x30)

abbrev pub decimal : Text → ℕ
decimal = fold with_digit 0

-- a number with its sign, where it lies in the range of exact doubles
abbrev pub literal_of : (ℕ → ℤ) → ℕ → IntLit
literal_of signed n = if nat_le n 9007199254740991 then Within (signed n) else Beyond

abbrev pub negated : ℕ → ℤ
negated zero = pos 0
negated (suc n) = negsuc n

-- digits of which the first is not 0
abbrev pub Positive : Text → Type 0
Positive [] = IsTrue false
Positive (d ∷ ds) = IsTrue (is_between 0x31 0x39 d && list_all is_digit ds)

pub data Int : Text → IntLit → Type 0 where
  zero_int : Int (codes "0") (Within (pos 0))
  plain_int : {ds : Text} → Positive ds → Int ds (literal_of pos (decimal ds))
  minus_int : {ds : Text} → Positive ds → Int (codes "-" ++ ds) (literal_of negated (decimal ds))

-- ---- Numbers

-- 1*DIGIT
abbrev pub Digits : Text → Type 0
Digits [] = IsTrue false
Digits (d ∷ ds) = IsTrue (is_digit d && list_all is_digit ds)

-- int / "-0"
pub data Whole : Text → Type 0 where
  integer : {t : Text} {i : IntLit} → Int t i → Whole t
  minus_zero : Whole (codes "-0")

-- frac
pub data Fraction : Text → Type 0 where
  no_fraction : Fraction []
  fraction : {ds : Text} → Digits ds → Fraction (codes "." ++ ds)

pub data Sign : Text → Type 0 where
  no_sign : Sign []
  plus_sign : Sign (codes "+")
  minus_sign : Sign (codes "-")

-- e, in either case
abbrev pub is_e : ℕ → Bool
is_e c = c == 0x65 || c == 0x45

-- exp
pub data Exponent : Text → Type 0 where
  no_exponent : Exponent []
  exponent : {e : ℕ} {s : Text} (ds : Text) → IsTrue (is_e e) → Sign s → Digits ds → Exponent (e ∷ (s ++ ds))

pub data Number : Text → Type 0 where
  number : {i f e : Text} → Whole i → Fraction f → Exponent e → Number (i ++ (f ++ e))
