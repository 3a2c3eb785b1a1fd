-- Two exponents, brought to the lesser of them.
use Rattle.std.proofs.Common.{◌≡◌, ℕ, ◌+◌, ◌-◌, ◌^◌, ◌<◌, Bool, true, false, length, ◌⊎◌, inl, inr, arith, ℤ, pos, negsuc, ◌-ℤ◌}
use Rattle.std.proofs.lemmas.Int.{ints}
use Rattle.std.proofs.lemmas.Bool.{cases_lt}
use Rattle.std.proofs.Math.Nat.{one-le-pow}
use borrow.Author.Differences.{up, down}
use Rattle.decimal_order.specs.Value.{digits_value, signed}
use Rattle.decimal_order.specs.Order.{positive_part}
use Rattle.decimal_order.specs.Parts.{Parts, parts_value}
use Rattle.decimal_order.specs.Places.{gain, loss}

rise_is : (z : ℤ) → positive_part z ≡ up z - down z
rise_is (pos n) = omega arith
rise_is (negsuc n) = omega arith

power_is : (falls : Bool) (x a : ℕ) → (up (signed falls x -ℤ pos a) + (loss falls x + a) ≡ down (signed falls x -ℤ pos a) + gain falls x)
power_is true x a = omega (arith, ints)
power_is false x a = omega (arith, ints)

-- how far two exponents stand above the lesser of them
pub record AreRises (m n : Parts) (r s : ℕ) : Type 0 where
  pub balanced : r + (gain n.exponent_negative (digits_value n.exponent) + loss m.exponent_negative (digits_value m.exponent) + length m.frac) ≡ s + (gain m.exponent_negative (digits_value m.exponent) + loss n.exponent_negative (digits_value n.exponent) + length n.frac)
  pub one_is_zero : (r ≡ 0) ⊎ (s ≡ 0)

pub rises_of : (p q : ℤ) → (positive_part (p -ℤ q) + (up q + down p) ≡ positive_part (q -ℤ p) + (up p + down q)) × ((positive_part (p -ℤ q) ≡ 0) ⊎ (positive_part (q -ℤ p) ≡ 0))
rises_of p q =
    let a = rise_is (p -ℤ q) in
    let b = rise_is (q -ℤ p) in
    (omega (arith, ints), elim (cases_lt (positive_part (p -ℤ q)) 1) [ inl h ↦ inl (omega arith) | inr h ↦ inr (omega (arith, ints)) ])

pub rises : (m n : Parts) → AreRises m n (positive_part ((parts_value m).exponent -ℤ (parts_value n).exponent)) (positive_part ((parts_value n).exponent -ℤ (parts_value m).exponent))
rises m n =
    let p = power_is m.exponent_negative (digits_value m.exponent) (length m.frac) in
    let q = power_is n.exponent_negative (digits_value n.exponent) (length n.frac) in
    let r = rises_of (parts_value m).exponent (parts_value n).exponent in
    record { balanced = omega (arith, p, q, r.0); one_is_zero = r.1 }

-- what brings the coefficient of m to the lesser exponent
abbrev pub factor : Parts → Parts → ℕ
factor m n = 10 ^ positive_part ((parts_value m).exponent -ℤ (parts_value n).exponent)

pub factor_positive : (m n : Parts) → 0 < factor m n
factor_positive m n = one-le-pow (positive_part ((parts_value m).exponent -ℤ (parts_value n).exponent)) 10 (omega arith)
