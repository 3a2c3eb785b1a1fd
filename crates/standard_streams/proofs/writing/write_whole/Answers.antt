use Rattle.standard_streams.proofs.Taken.{rest_left, kept}
use Rattle.standard_streams.proofs.writing.write_whole.Goals.{in-Ok, in-Err}
use Rattle.standard_streams.proofs.writing.write_whole.Goals as goal

pub loop-preserved : goal.loop-preserved
loop-preserved g c = elim c.match-write.branch [ in-Ok w ↦ rw w.rest-is (rest_left w.in-Ok.taken c.loop.rest.now c.args.bytes.now (g.W.Write.contents c.args.writer.now) (g.W.Write.contents c.loop.writer) (g.W.Write.contents c.write.new.self) c.loop.invariant w.in-Ok.ensures.bytes) | in-Err w ↦ rw w.rest-is (kept c.loop.rest.now c.args.bytes.now (g.W.Write.contents c.args.writer.now) (g.W.Write.contents c.loop.writer) (g.W.Write.contents c.write.new.self) c.loop.invariant w.in-Err.ensures.bytes) ]
