use Rattle.std.proofs.Common.{◌==◌}
use Rattle.byte_masks.proofs.Lanes.{compared_with}
use Rattle.byte_masks.proofs.equal_to.Goals as goal

pub returns : goal.returns
returns c = compared_with (λ a b. a == b) c.args.lanes c.args.byte c.fits-lanes.0
