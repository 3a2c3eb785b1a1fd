use Rattle.std.proofs.Common.{nat_lt}
use Rattle.byte_masks.proofs.Lanes.{compared_with}
use Rattle.byte_masks.proofs.controls.Goals as goal

pub returns : goal.returns
returns c = compared_with nat_lt c.args.lanes 0x20 c.fits-lanes.0
