use Rattle.log_lines.proofs.Whole.{went_on}
use Rattle.log_lines.proofs.line_writer.LineWriter.go_on.Goals as goal

pub returns-clause-bytes : goal.returns-clause-bytes
returns-clause-bytes g c = went_on _ _ c.args.self.now c.take-count.result c.rest.result.now c.rest.ensures c.take-count.ensures.bytes
