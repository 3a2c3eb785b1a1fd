use Rattle.wire_frames.proofs.ReadBack.{read_back}
use Rattle.wire_frames.proofs.laws.reads_what_is_written.Goals as goal

pub returns : goal.returns
returns c = read_back
