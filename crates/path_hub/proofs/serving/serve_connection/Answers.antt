use Rattle.path_hub.proofs.Serve.{opened, not_opened, closes, ok_gives, err_gives}
use Rattle.path_hub.proofs.serving.serve_connection.Goals as goal

pub returns-then-is_err : goal.returns-then-is_err
returns-then-is_err g c = not_opened c.splits_from_the_front.ensures c.args.conn c.args.hub.now c.connect.new.self (g.W.Wire.meaning c.args.wire.now) (err_gives c.connect.result c.is_err.result c.is_err.ensures.value c.if-is_err.true c.connect.ensures.err) c.requires.free

pub returns : goal.returns
returns g c = closes c.args.conn c.args.hub.now c.serve_turns-end.new.hub c.disconnect.new.self (g.W.Wire.meaning c.args.wire.now) (g.W.Wire.meaning c.serve_turns-end.new.wire) c.serve_turns-end.result
    (c.serve_turns-end.ensures c.args.hub.now (g.W.Wire.meaning c.args.wire.now) c.requires.reads
    (opened c.splits_from_the_front.ensures c.args.conn c.args.hub.now c.connect.new.self (g.W.Wire.meaning c.args.wire.now) (ok_gives c.connect.result c.is_err.result c.is_err.ensures.value c.if-is_err.false c.connect.ensures.ok) c.connect.ensures.tenants))
    c.disconnect.ensures.sets c.disconnect.ensures.tenants
