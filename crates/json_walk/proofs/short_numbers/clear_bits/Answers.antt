use Rattle.json_walk.proofs.ClearBits.{few_clear, clear_from}
use Rattle.json_walk.proofs.short_numbers.clear_bits.Goals as goal

pub returns-clause-few : goal.returns-clause-few
returns-clause-few c = few_clear c.args.mask c.args.from c.ranges.mask.fits c.requires.from c.requires.end

pub returns-clause-clear : goal.returns-clause-clear
returns-clause-clear c = clear_from c.args.mask c.args.from c.ranges.mask.fits c.requires.from c.requires.end
