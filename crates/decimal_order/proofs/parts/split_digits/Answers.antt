use Rattle.std.proofs.Common.{◌∙◌, sym, arith}
use Rattle.decimal_order.proofs.Readings.{front_at, after_at}
use Rattle.decimal_order.proofs.parts.split_digits.Goals as goal

pub returns-then-not-is_ascii_digit-clause-digits : goal.returns-then-not-is_ascii_digit-clause-digits
returns-then-not-is_ascii_digit-clause-digits c =
    c.split_at.ensures.front ∙ sym (front_at c.args.text.now c.loop-i.i (omega arith) c.loop-i.invariant (λ _. sym c.is_ascii_digit.ensures.value ∙ c.if-not-is_ascii_digit.true))

pub returns-then-not-is_ascii_digit-clause-rest : goal.returns-then-not-is_ascii_digit-clause-rest
returns-then-not-is_ascii_digit-clause-rest c =
    c.split_at.ensures.back ∙ sym (after_at c.args.text.now c.loop-i.i (omega arith) c.loop-i.invariant (λ _. sym c.is_ascii_digit.ensures.value ∙ c.if-not-is_ascii_digit.true))

pub returns-clause-digits : goal.returns-clause-digits
returns-clause-digits c =
    c.split_at-2.ensures.front ∙ sym (front_at c.args.text.now _ (omega arith) (λ k h. c.loop-i.invariant k (omega arith)) (λ h. absurd (omega arith)))

pub returns-clause-rest : goal.returns-clause-rest
returns-clause-rest c =
    c.split_at-2.ensures.back ∙ sym (after_at c.args.text.now _ (omega arith) (λ k h. c.loop-i.invariant k (omega arith)) (λ h. absurd (omega arith)))
