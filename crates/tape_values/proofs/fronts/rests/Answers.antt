use Rattle.std.proofs.Common.{◌≤◌, ◌<◌, length, arith}
use Rattle.tape_values.proofs.Settled.{rests_are, shorter_same}
use Rattle.tape_values.proofs.fronts.rests.Goals as goal

pub returns : goal.returns
returns c =
    let a = c.args.a.now in
    let b = c.args.b.now in
    let p = c.in_ok-place.place in
    let in_common : p ≤ c.common.result = search arith in
    let in_a : p < length a = search arith in
    let in_b : p < length b = search arith in
    let some : 1 ≤ p = search arith in
    rests_are a b c.in_ok-left.left.now c.in_ok-right.right.now p some in_a in_b (shorter_same a b p c.common.result in_common c.common.ensures.same) c.in_ok-place.ensures.2 c.in_ok-left.ensures.0 c.in_ok-right.ensures.0
