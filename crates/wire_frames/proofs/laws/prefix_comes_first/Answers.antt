use Rattle.wire_frames.proofs.Splits.{split-append}
use Rattle.wire_frames.proofs.laws.prefix_comes_first.Goals as goal

pub returns : goal.returns
returns c = split-append
