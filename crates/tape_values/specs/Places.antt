-- The places that a slice selects, as the code has them: ascending.
use Rattle.std.specs.Prelude.{ℕ, ◌-◌, ◌%◌, Bool, ◌&&◌, nat_le, nat_lt, nat_eq}

-- first, first + step, .. below the end
abbrev pub is_place : (first end step : ℕ) → ℕ → Bool
is_place first end step i = nat_le first i && nat_lt i end && nat_eq ((i - first) % step) 0
