use Rattle.std.proofs.lemmas.Result.{err_from_is_err_and}
use Rattle.path_server.proofs.Replying.{body_read, no_head}
use Rattle.path_server.proofs.exchange.read_reply.Goals as goal

pub returns-in_err-read_bytes-clause-read : goal.returns-in_err-read_bytes-clause-read
returns-in_err-read_bytes-clause-read g c =
    let p = err_from_is_err_and c.from_residual.result c.from_residual.ensures.1 in
    rw (p.1, p.2) (no_head (g.W.Wire.meaning c.args.wire.now) (g.W.Wire.meaning c.read_bytes.new.wire) c.clear.new.self.items c.read_bytes.new.bytes.items c.read_bytes.new.bytes.items c.in_err-read_bytes.field-0.0 c.in_err-read_bytes.ensures.read)

pub returns-clause-read : goal.returns-clause-read
returns-clause-read g c =
    let head = rw c.clear.ensures.items at c.in_ok-read_bytes.ensures.read in
    let spelled = rw c.as_slice.ensures.value at c.spelled_length-length.ensures in
    body_read c.spelled_length-length.result (g.W.Wire.meaning c.args.wire.now) (g.W.Wire.meaning c.read_bytes.new.wire) (g.W.Wire.meaning c.read_bytes-2.new.wire) c.read_bytes.new.bytes.items c.read_bytes-2.new.bytes.items c.read_bytes-2.result
    head spelled c.if-length-gt-LONGEST_REPLY.false c.read_bytes-2.ensures.read
