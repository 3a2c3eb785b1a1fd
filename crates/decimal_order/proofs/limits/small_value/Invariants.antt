use Rattle.std.proofs.Common.{◌≡◌, ◌≤◌}
use Rattle.decimal_order.specs.Places.{digit, made}
use Rattle.decimal_order.proofs.limits.small_value.Given as goal

abbrev pub invariant-loop-digit : goal.invariant-loop-digit
invariant-loop-digit l = (l.value ≡ made (digit l.digits) l.digit-index) × (l.value ≤ 999999999)
