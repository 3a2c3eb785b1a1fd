use Rattle.std.proofs.Common.{◌≡◌, ℕ, ◌<◌, get_or, true}
use Rattle.std.specs.Char.{is_ascii_digit}
use Rattle.decimal_order.proofs.integers.are_digit_bytes.Given as goal

abbrev pub invariant-loop-b : goal.invariant-loop-b
invariant-loop-b l = (k : ℕ) → k < l.b-index → is_ascii_digit (get_or l.bytes k 0) ≡ true
