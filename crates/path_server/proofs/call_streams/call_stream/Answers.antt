use Rattle.std.proofs.Common.{Ok}
use Rattle.path_server.proofs.WholeCalls.{calls_whole}
use Rattle.path_server.proofs.call_streams.call_stream.Goals as goal

pub returns-in-Ok-Err : goal.returns-in-Ok-Err
returns-in-Ok-Err g c =
    let called = rw (c.in-Ok-Err.is-0, c.new-replies.ensures.items) at c.call_over-called.ensures in
    let stopped = rw (c.in-Ok-Err.is-1, c.as_slice.ensures.value) at c.write_whole-written.ensures.short in
    λ left same. record {
      replies = c.call_over-called.new.out.items;
      called = calls_whole left c.args.lines.now (g.V.Wire.meaning c.args.wire.now) (g.V.Wire.meaning c.call_over-called.new.wire) _ _ (Ok tt) same called;
      stopped = stopped;
    }
