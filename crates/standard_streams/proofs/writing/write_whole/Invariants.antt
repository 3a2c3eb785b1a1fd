use Rattle.standard_streams.specs.Fronts.{WritesBut}
use Rattle.standard_streams.proofs.writing.write_whole.Given as goal

abbrev pub invariant-loop : goal.invariant-loop
invariant-loop g l = WritesBut l.rest l.bytes (g.W.Write.contents l.fn.writer) (g.W.Write.contents l.writer)
