use Rattle.decimal_order.proofs.Words.{eight_and_eight}
use Rattle.decimal_order.proofs.integers.are_digits.Goals as goal

pub returns-then-are_eight_digits : goal.returns-then-are_eight_digits
returns-then-are_eight_digits c =
    let first = c.in-Some-Some.ensures.cases in
    let last = c.in-Some-Some.ensures'.cases in
    let few = c.in_default.ensures.cases in
    eight_and_eight c.args.text.now c.loop-chunk.left.now c.in-Some-Some.first.now c.in-Some-Some.last.now c.are_eight_digits-then-are_eight_digits.result c.loop-chunk.invariant few first.same last.1.same (c.are_eight_digits.ensures.0 c.if-are_eight_digits.true) c.are_eight_digits-then-are_eight_digits.ensures
