use Rattle.std.proofs.Common.{arith}
use Rattle.decimal_order.proofs.Words.{words_rank, words_same, digits_drop}
use Rattle.decimal_order.proofs.integers.compare_digits.Goals as goal

pub returns-then-x_word-y_word : goal.returns-then-x_word-y_word
returns-then-x_word-y_word c =
    let v = c.loop-a.invariant in
    v.left_decides c.cmp.result
    (words_rank c.loop-a.x_left.now c.loop-a.y_left.now c.in-Some.a.now c.in-Some-split_first_chunk.b.now c.in-Some.x_next.now c.in-Some-split_first_chunk.y_next.now c.from_be_bytes-x_word.result c.from_be_bytes-y_word.result c.in-Some.ensures.cases c.in-Some-split_first_chunk.ensures.cases
    v.x_digits v.y_digits v.same_length c.from_be_bytes-x_word.ensures c.from_be_bytes-y_word.ensures c.cmp.result c.cmp.ensures c.if-x_word-y_word.true)

pub loop-a-preserved : goal.loop-a-preserved
loop-a-preserved c =
    let p = c.in-Some.ensures.cases in
    let q = c.in-Some-split_first_chunk.ensures.cases in
    let s = p.2 in
    let t = q.2 in
    let v = c.loop-a.invariant in
    let l = v.same_length in
    record {
      same_length = omega arith;
      x_digits = rw p.1 (digits_drop 8 c.loop-a.x_left.now v.x_digits);
      y_digits = rw q.1 (digits_drop 8 c.loop-a.y_left.now v.y_digits);
      left_decides = (λ o r. v.left_decides o
          (words_same c.loop-a.x_left.now c.loop-a.y_left.now c.in-Some.a.now c.in-Some-split_first_chunk.b.now c.in-Some.x_next.now c.in-Some-split_first_chunk.y_next.now c.from_be_bytes-x_word.result c.from_be_bytes-y_word.result p q
          v.x_digits v.y_digits l c.from_be_bytes-x_word.ensures c.from_be_bytes-y_word.ensures o c.if-x_word-y_word.false r));
    }
