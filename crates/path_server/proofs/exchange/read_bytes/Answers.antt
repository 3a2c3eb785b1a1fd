use Rattle.std.proofs.Common.{length, take, ◌≡◌, ◌<◌, ◌≤◌, arith, drop, length-take}
use Rattle.path_server.proofs.Replying.{read_ended, read_piece, read_refused}
use Rattle.path_server.proofs.exchange.read_bytes.Goals as goal

pub reading-preserved : goal.reading-preserved
reading-preserved g c =
    let most = c.min-most.ensures in
    let within = c.in-Ok.ensures.within in
    let few : c.in-Ok.n ≤ c.reading.left = omega (arith, length-take c.min-most.result c.reading.buffer, within, most) in
    let kept : length c.read.new.into ≡ length (take c.min-most.result c.reading.buffer) = c.read.auto.into in
    let appended = rw c.if-is_err.ensures.negation at c.extend_from_slice.ensures.items in
    read_piece c.args.count (g.W.Wire.meaning c.args.wire.now) (g.W.Wire.meaning c.reading.wire) (g.W.Wire.meaning c.read.new.self) c.args.bytes.now.items c.reading.bytes.items c.extend_from_slice.new.self.items c.reading.left c.in-Ok.n c.read.new.into (drop c.min-most.result c.reading.buffer)
    c.reading.invariant c.in-Ok.ensures.ok few (omega (arith, kept, within)) appended

pub returns-then-n-eq0-clause-read : goal.returns-then-n-eq0-clause-read
returns-then-n-eq0-clause-read g c =
    let most = c.min-most.ensures in
    let some = c.requires.some in
    let same = c.reading.auto.buffer in
    let left = c.reading-test.true in
    let long : 0 < length (take c.min-most.result c.reading.buffer) = omega (arith, length-take c.min-most.result c.reading.buffer, most, some, same, left) in
    let none = c.if-n-eq0.true in
    read_ended c.args.count (g.W.Wire.meaning c.args.wire.now) (g.W.Wire.meaning c.reading.wire) (g.W.Wire.meaning c.read.new.self) c.args.bytes.now.items c.reading.bytes.items c.reading.bytes.items c.reading.left (take c.in-Ok.n c.read.new.into)
    c.reading.invariant left c.in-Ok.ensures.ok (omega (arith, length-take c.in-Ok.n c.read.new.into, none)) (c.in-Ok.ensures.end none long)

pub returns-then-is_err-clause-read : goal.returns-then-is_err-clause-read
returns-then-is_err-clause-read g c =
    let most = c.min-most.ensures in
    let within = c.in-Ok.ensures.within in
    read_refused c.args.count (g.W.Wire.meaning c.args.wire.now) (g.W.Wire.meaning c.reading.wire) (g.W.Wire.meaning c.read.new.self) c.args.bytes.now.items c.reading.bytes.items c.extend_from_slice.new.self.items c.reading.left (take c.in-Ok.n c.read.new.into)
    c.reading.invariant c.in-Ok.ensures.ok (omega (arith, length-take c.in-Ok.n c.read.new.into, length-take c.min-most.result c.reading.buffer, within, most))
