use Rattle.std.proofs.Common.{inl, inr, arith, ◌≡◌, ◌++◌, take, drop, ap, ◌∙◌}
use Rattle.std.proofs.lemmas.List.{take-append-drop}
use Rattle.client_frames.proofs.Framed.{no_length, not_whole, other_length, whole}
use Rattle.client_frames.proofs.replies.front_of.Goals as goal
use Rattle.client_frames.proofs.replies.front_of.Goals.{then-length-lt-BEFORE_PAYLOAD-via-then-length-lt-BEFORE_PAYLOAD, then-length-lt-BEFORE_PAYLOAD-via-else-length-lt-BEFORE_PAYLOAD+then-length-gt-LONGEST_REPLY}

pub returns-then-bytes-lt-LENGTH_BYTES : goal.returns-then-bytes-lt-LENGTH_BYTES
returns-then-bytes-lt-LENGTH_BYTES c = let short = c.if-bytes-lt-LENGTH_BYTES.true in (no_length c.args.bytes.now short, inl short)

pub returns-then-length-lt-BEFORE_PAYLOAD : goal.returns-then-length-lt-BEFORE_PAYLOAD
returns-then-length-lt-BEFORE_PAYLOAD c =
    let value = c.spelled-length.ensures.value in
    λ more. other_length c.args.bytes.now more c.if-bytes-lt-LENGTH_BYTES.false (elim c.then-length-lt-BEFORE_PAYLOAD.branch [
      | then-length-lt-BEFORE_PAYLOAD-via-then-length-lt-BEFORE_PAYLOAD w ↦ let below = w.if-length-lt-BEFORE_PAYLOAD.true in inl (omega (arith, value, below))
      | then-length-lt-BEFORE_PAYLOAD-via-else-length-lt-BEFORE_PAYLOAD+then-length-gt-LONGEST_REPLY w ↦ let above = w.if-length-gt-LONGEST_REPLY.true in inr (omega (arith, value, above))
    ])

pub returns-then-bytes-length : goal.returns-then-bytes-length
returns-then-bytes-length c =
    let value = c.spelled-length.ensures.value in
    let short = c.if-bytes-length.true in
    let four = c.if-bytes-lt-LENGTH_BYTES.false in
    let low = c.if-length-lt-BEFORE_PAYLOAD.false in
    let high = c.if-length-gt-LONGEST_REPLY.false in
    (not_whole c.args.bytes.now (omega (arith, value, short, four)), inr (omega (arith, value, low), omega (arith, value, high)))

pub returns : goal.returns
returns c =
    let bytes = c.spelled-length.ensures.bytes in
    let long = c.reply_of.ensures.long in
    let high = c.if-length-gt-LONGEST_REPLY.false in
    let enough = c.if-bytes-length.false in
    let four = c.if-bytes-lt-LENGTH_BYTES.false in
    let body = c.split_at-2.ensures.front_len in
    let behind : c.split_at-2.result.0.now ++ c.split_at-2.result.1.now ≡ drop 4 c.args.bytes.now =
    ap (λ x. x ++ c.split_at-2.result.1.now) c.split_at-2.ensures.front ∙ ap (λ x. take c.spelled-length.result c.split_at.result.1.now ++ x) c.split_at-2.ensures.back
    ∙ take-append-drop c.spelled-length.result c.split_at.result.1.now ∙ c.split_at.ensures.back in (
      omega (arith, long, high, body),
      whole c.args.bytes.now c.split_at-2.result.0.now c.split_at-2.result.1.now c.reply_of.result.payload.now c.spelled-length.result c.reply_of.result.status c.reply_of.result.number
          bytes behind (omega (arith, long, body)) c.reply_of.ensures.parts,
    )
