use Rattle.std.proofs.Common.{◌≡◌, length, sym, ap, ◌∙◌, arith}
use Rattle.decimal_order.specs.Places.{digit, made}
use Rattle.decimal_order.proofs.Digits.{value_is_made, digit_inside, made_next}
use Rattle.decimal_order.proofs.Rankings.{bytes_rank}
use Rattle.decimal_order.proofs.integers.compare_bytes.Goals as goal

pub returns-then-a-b : goal.returns-then-a-b
returns-then-a-b c =
    bytes_rank c.args.x.now c.args.y.now c.loop-i.i c.cmp.result c.requires.x_digits c.requires.y_digits c.requires.same_length (omega arith) c.loop-i.invariant c.cmp.ensures c.if-a-b.true

pub loop-i-preserved : goal.loop-i-preserved
loop-i-preserved c =
    let p = digit_inside c.args.x.now c.loop-i.i (omega arith) in
    let q = digit_inside c.args.y.now c.loop-i.i (omega arith) in
    made_next (digit c.args.x.now) (digit c.args.y.now) c.loop-i.i c.loop-i.invariant (omega arith)

pub returns : goal.returns
returns c =
    let e : c.loop-i.i ≡ length c.args.x.now = omega arith in
    value_is_made c.args.x.now ∙ ap (made (digit c.args.x.now)) (sym e) ∙ c.loop-i.invariant ∙ ap (made (digit c.args.y.now)) (e ∙ c.requires.same_length) ∙ sym (value_is_made c.args.y.now)
