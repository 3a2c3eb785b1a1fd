use Rattle.byte_masks.proofs.Lanes.{lesser_at}
use Rattle.byte_masks.proofs.lesser.Goals as goal

pub returns : goal.returns
returns c i h = lesser_at c.args.lanes c.args.others 16 i c.fits-lanes.0 c.fits-others.0 h
