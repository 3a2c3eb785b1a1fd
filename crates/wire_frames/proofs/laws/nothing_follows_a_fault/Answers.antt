use Rattle.wire_frames.proofs.Cutting.{stays_broken}
use Rattle.wire_frames.proofs.laws.nothing_follows_a_fault.Goals as goal

pub returns : goal.returns
returns c = stays_broken
