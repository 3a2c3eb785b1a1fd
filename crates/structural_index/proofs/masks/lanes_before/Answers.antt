use Rattle.structural_index.proofs.Lanes.{no_more, none_before}
use Rattle.structural_index.proofs.masks.lanes_before.Goals as goal

pub returns-clause-few : goal.returns-clause-few
returns-clause-few c = no_more c.args.stops c.args.lanes c.ranges.stops.fits c.requires

pub returns-clause-clear : goal.returns-clause-clear
returns-clause-clear c = none_before c.args.stops c.args.lanes c.ranges.stops.fits c.requires
