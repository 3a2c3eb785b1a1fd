use Rattle.std.proofs.Common.{ℕ, ◌+◌, ◌<◌, ◌≤◌, ◌==◌, slice_index, ap, ap₂, ◌∙◌, arith, zero-add}
use Rattle.std.specs.List.{range_with_len}
use lib.Dec.{T}
use lib.Lanes.{all_below}
use Rattle.byte_masks.specs.Classes.{found}
use Rattle.byte_masks.proofs.Lanes.{taken_at, joined}
use Rattle.byte_masks.proofs.found_in.Goals as goal

pub returns : goal.returns
returns c = let lanes = c.args.lanes in let others = c.args.others in let at = λ (from : ℕ) (below : T (all_below 64 (range_with_len from 16))) (inside : from + 16 ≤ 64) (j : ℕ) (h : j < 16). ap₂ (λ x y. found c.args.table x == y) (taken_at lanes from j c.fits-lanes.0 below inside h) (taken_at others from j c.fits-others.0 below inside h) in let test = λ (i : ℕ). found c.args.table (slice_index lanes i) == slice_index others i in grind (arith, joined test c.found_among-first.result c.found_among-second.result c.found_among-third.result c.found_among-fourth.result c.found_among-first.ensures.small c.found_among-second.ensures.small c.found_among-third.ensures.small (λ j h. c.found_among-first.ensures.bits j h ∙ at 0 tt (omega arith) j h ∙ ap test (zero-add j)) (λ j h. c.found_among-second.ensures.bits j h ∙ at 16 tt (omega arith) j h) (λ j h. c.found_among-third.ensures.bits j h ∙ at 32 tt (omega arith) j h) (λ j h. c.found_among-fourth.ensures.bits j h ∙ at 48 tt (omega arith) j h))
