-- The order of numbers by their decimal values: coefficients are compared once both have the lesser exponent.
use Rattle.std.specs.Prelude.{ℕ, ◌^◌, List, ℤ, pos, negsuc, ◌-ℤ◌, ◌*ℤ◌}
use Rattle.std.specs.declared.cmp.Ordering.{Ordering}
use Rattle.std.specs.Ordering.{int_cmp}
use Rattle.decimal_order.specs.Value.{Value, value}

-- z, or 0 where z is below 0
abbrev pub positive_part : ℤ → ℕ
positive_part (pos n) = n
positive_part (negsuc n) = 0

-- the coefficient of v at the lesser exponent of v and w
abbrev pub scaled : Value → Value → ℤ
scaled v w = v.coefficient *ℤ pos (10 ^ positive_part (v.exponent -ℤ w.exponent))

abbrev pub value_cmp : Value → Value → Ordering
value_cmp v w = int_cmp (scaled v w) (scaled w v)

-- how the number that a writes compares with the number that b writes
unfoldable pub number_cmp : List ℕ → List ℕ → Ordering
number_cmp a b = value_cmp (value a) (value b)
