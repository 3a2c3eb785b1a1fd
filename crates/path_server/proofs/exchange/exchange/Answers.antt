use Rattle.path_server.proofs.Replying.{exchanged}
use Rattle.path_server.proofs.exchange.exchange.Goals as goal

pub returns-clause-exchanged : goal.returns-clause-exchanged
returns-clause-exchanged g c =
    let sent = rw c.if-not-write_all.false at c.write_all.ensures in
    exchanged (g.W.Wire.meaning c.args.wire.now) (g.W.Wire.meaning c.write_all.new.wire) (g.W.Wire.meaning c.read_reply.new.wire) c.args.request.now c.read_reply.new.reply.items c.read_reply.result sent c.read_reply.ensures.read
