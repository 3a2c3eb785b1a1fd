use Rattle.std.proofs.Common.{◌≡◌, ℕ, ◌<◌}
use Rattle.decimal_order.specs.Parts.{digits}
use Rattle.decimal_order.specs.Places.{digit}
use Rattle.decimal_order.proofs.magnitude.leading_zeros.Given as goal

abbrev pub invariant-loop-place : goal.invariant-loop-place
invariant-loop-place l = (i : ℕ) → i < l.place → digit (digits l.parts) i ≡ 0
