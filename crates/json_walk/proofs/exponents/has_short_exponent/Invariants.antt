use Rattle.std.proofs.Common.{◌≡◌, ℕ, ◌<◌, false, get_or}
use Rattle.decimal_order.specs.Value.{is_e}
use Rattle.json_walk.proofs.exponents.has_short_exponent.Given as goal

abbrev pub invariant-loop-i : goal.invariant-loop-i
invariant-loop-i l = (k : ℕ) → k < l.i → is_e (get_or l.bytes k 0) ≡ false
