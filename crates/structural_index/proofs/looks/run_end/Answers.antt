use Rattle.structural_index.proofs.Runs.{solid_whole}
use Rattle.structural_index.proofs.looks.run_end.Goals as goal

pub returns-then-bytes-to-gt32 : goal.returns-then-bytes-to-gt32
returns-then-bytes-to-gt32 c = solid_whole c.args.bytes.now c.args.from c.args.to c.requires.order c.requires.within c.requires.last c.if-bytes-to-gt32.true
