use Rattle.std.proofs.Common.{◌+◌, ◌≤◌, length, arith}
use Rattle.json_walk.proofs.exponents.has_short_exponent.Goals as goal

pub returns-then-bytes-le-SHORT_LENGTH : goal.returns-then-bytes-le-SHORT_LENGTH
returns-then-bytes-le-SHORT_LENGTH c = λ _.
    c.late_exponents_keep_limits.ensures c.args.bytes.now 0 (omega arith) (omega arith) (λ k below. absurd (omega arith))

pub returns : goal.returns
returns c = λ _.
    let e = c.saturating_sub-i-end.ensures in let t = c.loop-i-test.false in let h : length c.args.bytes.now ≤ c.loop-i.i + 10 = omega arith in
    c.late_exponents_keep_limits.ensures c.args.bytes.now c.loop-i.i c.if-bytes-gt-MAX_LENGTH.false h c.loop-i.invariant
