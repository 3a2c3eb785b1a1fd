use Rattle.std.proofs.Common.{subst}
use Rattle.path_hub.specs.Wires.{WritesAll}
use Rattle.path_hub.proofs.Sent.{writes_dropped, writes_more}
use Rattle.path_hub.proofs.sending.send.Goals as goal

pub returns-then-not-written-clause-sent : goal.returns-then-not-written-clause-sent
returns-then-not-written-clause-sent g c = λ m sent w. writes_dropped m (g.W.Wire.meaning c.args.wire.now) sent c.args.out.now.items (subst (λ b. WritesAll m sent b (g.W.Wire.meaning c.args.wire.now)) c.if-not-written.true w)

pub returns-clause-sent : goal.returns-clause-sent
returns-clause-sent g c =
    let v = subst (λ b. WritesAll (g.W.Wire.meaning c.args.wire.now) b c.write_all-done.result (g.W.Wire.meaning c.write_all-done.new.wire)) c.deref.ensures.value c.write_all-done.ensures in
    λ m sent w. writes_more m (g.W.Wire.meaning c.args.wire.now) (g.W.Wire.meaning c.write_all-done.new.wire) sent c.args.out.now.items c.write_all-done.result (subst (λ b. WritesAll m sent b (g.W.Wire.meaning c.args.wire.now)) c.if-not-written.false w) v
