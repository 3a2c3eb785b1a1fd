use Rattle.std.proofs.Common.{◌≡◌, ◌+◌}
use Rattle.decimal_order.specs.Parts.{digits}
use Rattle.decimal_order.specs.Places.{digit, made}
use Rattle.decimal_order.proofs.magnitude.compare_from.Given as goal

abbrev pub invariant-loop-i : goal.invariant-loop-i
invariant-loop-i l = made (λ i. digit (digits l.x) (l.x_from + i)) l.i ≡ made (λ i. digit (digits l.y) (l.y_from + i)) l.i
