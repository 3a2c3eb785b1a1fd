use Rattle.std.proofs.Common.{◌≡◌, length, sym, ap, ◌∙◌, arith}
use Rattle.decimal_order.specs.Places.{digit, made}
use Rattle.decimal_order.proofs.Digits.{digit_low, value_front, value_is_made}
use Rattle.decimal_order.proofs.limits.small_value.Goals as goal

pub overflow_sub-digit : goal.overflow_sub-digit
overflow_sub-digit c = digit_low c.args.digits.now c.requires _ c.loop-digit-test.true

pub returns-then-value-gt-MAX_EXPONENT : goal.returns-then-value-gt-MAX_EXPONENT
returns-then-value-gt-MAX_EXPONENT c =
    let h = value_front c.args.digits.now c.loop-digit.digit-index c.loop-digit-test.true in omega arith

pub returns : goal.returns
returns c =
    let e : c.loop-digit.digit-index ≡ length c.args.digits.now = omega arith in
    (c.loop-digit.invariant.0 ∙ ap (made (digit c.args.digits.now)) e ∙ sym (value_is_made c.args.digits.now), c.loop-digit.invariant.1)
