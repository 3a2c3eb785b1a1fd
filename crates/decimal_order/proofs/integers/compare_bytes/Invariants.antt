use Rattle.std.proofs.Common.{◌≡◌}
use Rattle.decimal_order.specs.Places.{digit, made}
use Rattle.decimal_order.proofs.integers.compare_bytes.Given as goal

abbrev pub invariant-loop-i : goal.invariant-loop-i
invariant-loop-i l = made (digit l.x) l.i ≡ made (digit l.y) l.i
