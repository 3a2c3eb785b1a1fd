use Rattle.std.proofs.Common.{ap, arith}
use Rattle.decimal_order.proofs.Digits.{digit_low, digit_high}
use Rattle.decimal_order.proofs.magnitude.digit_at.Goals as goal

pub overflow_sub-result : goal.overflow_sub-result
overflow_sub-result c = digit_low c.parts.inside.int.now (rw (ap (λ p. p.int) c.parts.view_is) c.requires.int_digits) c.args.place c.if-place-int.true

pub returns-then-place-int-clause-one : goal.returns-then-place-int-clause-one
returns-then-place-int-clause-one c =
    let h = digit_high c.parts.inside.int.now (rw (ap (λ p. p.int) c.parts.view_is) c.requires.int_digits) c.args.place c.if-place-int.true in omega arith

pub overflow_sub-result-then-behind-frac : goal.overflow_sub-result-then-behind-frac
overflow_sub-result-then-behind-frac c = digit_low c.parts.inside.frac.now (rw (ap (λ p. p.frac) c.parts.view_is) c.requires.frac_digits) _ c.if-behind-frac.true

pub returns-then-behind-frac-clause-one : goal.returns-then-behind-frac-clause-one
returns-then-behind-frac-clause-one c =
    let h = digit_high c.parts.inside.frac.now (rw (ap (λ p. p.frac) c.parts.view_is) c.requires.frac_digits) _ c.if-behind-frac.true in omega arith
