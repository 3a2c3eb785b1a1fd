use Rattle.wire_frames.proofs.OneSplit.{split_up, split_only}
use Rattle.wire_frames.proofs.laws.splits_one_way.Goals as goal

pub returns-clause-is_one : goal.returns-clause-is_one
returns-clause-is_one c = split_up

pub returns-clause-only : goal.returns-clause-only
returns-clause-only c = split_only
