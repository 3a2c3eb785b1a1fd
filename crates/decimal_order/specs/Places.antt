-- Digits by their places, as the steps of a comparison see them.
use Rattle.std.specs.Prelude.{zero, suc, ◌≡◌, ℕ, ◌+◌, ◌-◌, ◌*◌, ◌^◌, ◌<◌, ◌≤◌, Bool, true, false, List, length, get_or, ◌-ℤ◌}
use Rattle.std.specs.declared.cmp.Ordering.{Ordering}
use Rattle.std.specs.Ordering.{MatchOrdering}
use Rattle.decimal_order.specs.Parts.{Parts, digits, parts_value}
use Rattle.decimal_order.specs.Value.{digits_value}
use Rattle.decimal_order.specs.Order.{positive_part}

-- the digit at a place, 0 past the end
abbrev pub digit : List ℕ → ℕ → ℕ
digit ds i = get_or ds i 0x30 - 0x30

-- the number that the first k of the digits f 0, f 1, .. make
abbrev pub made : (ℕ → ℕ) → ℕ → ℕ
made f zero = 0
made f (suc k) = 10 * made f k + f k

-- the number that the digits of p make at the lesser exponent of p and q
abbrev pub magnitude : Parts → Parts → ℕ
magnitude p q = digits_value (digits p) * 10 ^ positive_part ((parts_value p).exponent -ℤ (parts_value q).exponent)

-- how a compares with b
abbrev pub Ranks : Ordering → ℕ → ℕ → Type 0
Ranks o a b = MatchOrdering o (a < b) (a ≡ b) (b < a)

-- how many zeros stand in front
pub record AreLeadingZeros (ds : List ℕ) (zeros : ℕ) : Type 0 where
  pub inside : zeros ≤ length ds
  pub zero_before : (i : ℕ) → i < zeros → digit ds i ≡ 0
  pub then_other : zeros < length ds → 0 < digit ds zeros

-- what a signed exponent adds, and what it takes away
abbrev pub gain : Bool → ℕ → ℕ
gain true n = 0
gain false n = n

abbrev pub loss : Bool → ℕ → ℕ
loss true n = n
loss false n = 0

-- lead is 2,000,000,000 and the power of ten above the first digit that is not 0
abbrev pub IsLead : Parts → ℕ → ℕ → Type 0
IsLead p zeros lead = lead + zeros + loss p.exponent_negative (digits_value p.exponent) ≡ 2000000000 + length p.int + gain p.exponent_negative (digits_value p.exponent)
