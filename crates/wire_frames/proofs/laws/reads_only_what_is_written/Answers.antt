use Rattle.wire_frames.proofs.Written.{only_written}
use Rattle.wire_frames.proofs.laws.reads_only_what_is_written.Goals as goal

pub returns : goal.returns
returns c = only_written
