use Rattle.std.proofs.Common.{◌==◌, ◌∙◌, arith, w8}
use Rattle.std.proofs.lemmas.Simd.{length-swz_l}
use Rattle.byte_masks.proofs.Lanes.{compared_at, compared_lt, spots_long, in_table, found_at}
use Rattle.byte_masks.proofs.found_among.Goals as goal

pub swizzle : goal.swizzle
swizzle c = in_table c.args.lanes c.fits-lanes.0 c.fits-lanes.1

pub returns-clause-bits : goal.returns-clause-bits
returns-clause-bits c i h = grind (arith, compared_at (λ a b. a == b) 16 _ c.args.others (omega arith) (length-swz_l w8 16 c.args.table 0 _ ∙ spots_long c.args.lanes c.fits-lanes.0 c.fits-lanes.1) c.fits-others.0 i h, found_at c.args.lanes c.fits-lanes.0 c.fits-lanes.1 c.args.table i h)

pub returns-clause-small : goal.returns-clause-small
returns-clause-small c = compared_lt (λ a b. a == b) 16 _ c.args.others (omega arith) (length-swz_l w8 16 c.args.table 0 _ ∙ spots_long c.args.lanes c.fits-lanes.0 c.fits-lanes.1) c.fits-others.0
