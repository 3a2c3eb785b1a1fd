use Rattle.std.proofs.Common.{refl, sym, ◌∙◌}
use Rattle.std.proofs.lemmas.Bool.{false≢true}
use Rattle.decimal_order.proofs.Digits.{digits_at, at_digits}
use Rattle.decimal_order.proofs.integers.are_digit_bytes.Goals as goal

pub returns-then-not-is_ascii_digit : goal.returns-then-not-is_ascii_digit
returns-then-not-is_ascii_digit c =
    ((λ t. absurd (false≢true t)), (λ h. absurd (false≢true (sym c.if-not-is_ascii_digit.true ∙ c.is_ascii_digit.ensures.value ∙ at_digits c.args.bytes.now h c.loop-b.b-index c.loop-b-test.true))))

pub returns : goal.returns
returns c = ((λ _. digits_at c.args.bytes.now c.loop-b.b-index c.loop-b-test.false c.loop-b.invariant), (λ _. refl))
