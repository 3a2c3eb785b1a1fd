use Rattle.std.proofs.Common.{◌+◌, arith}
use Rattle.decimal_order.specs.Parts.{digits}
use Rattle.decimal_order.specs.Places.{digit}
use Rattle.decimal_order.proofs.Digits.{digit_bound}
use Rattle.decimal_order.proofs.Rankings.{made_ranks}
use Rattle.decimal_order.proofs.WithinLimits.{within_digits}
use Rattle.decimal_order.proofs.magnitude.compare_from.Goals as goal

pub returns-then-a-b : goal.returns-then-a-b
returns-then-a-b c =
    made_ranks (λ i. digit (digits c.args.x.now) (c.args.x_from + i)) (λ i. digit (digits c.args.y.now) (c.args.y_from + i)) c.loop-i.i c.args.places c.digit_at-a.result c.digit_at-b.result c.cmp.result
    (λ i. digit_bound _ (within_digits c.args.x.now c.requires.x_within) (c.args.x_from + i)) (λ i. digit_bound _ (within_digits c.args.y.now c.requires.y_within) (c.args.y_from + i))
    c.loop-i.invariant (omega arith) c.digit_at-a.ensures.value c.digit_at-b.ensures.value c.cmp.ensures c.if-a-b.true
