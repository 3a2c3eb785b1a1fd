use Rattle.std.proofs.Common.{◌-◌, ◌<◌, length, get_or, arith, sym, ◌∙◌}
use Rattle.std.proofs.lemmas.Simd.{Each1-get_or}
use Rattle.std.proofs.Common.{Fits, w8}
use Rattle.bit_words.proofs.Bits.{is_set-and, is_set-complement, is_set-zero}
use Rattle.byte_masks.proofs.Classes.{no_control, near_is, space_is}
use Rattle.byte_masks.proofs.classify.Goals as goal

pub returns-then-has_control-clause-op : goal.returns-then-has_control-clause-op
returns-then-has_control-clause-op c i h = let control = c.controls-control.result in let lane = get_or c.args.lanes i 0 in let fits : i < length c.args.lanes = omega (arith, c.fits-lanes.0) in grind (arith, is_set-and c.near_ops-near.result (18446744073709551615 - control) i, c.near_ops-near.ensures i h, is_set-complement control i c.controls-control.type_inv h, c.controls-control.ensures i h, no_control lane (Each1-get_or (Fits w8) c.args.lanes i 0 fits c.fits-lanes.1).fits)

pub returns-clause-op : goal.returns-clause-op
returns-clause-op c i h = c.near_ops-near.ensures i h ∙ near_is (get_or c.args.lanes i 0) (c.has_control.ensures c.if-has_control.false i h)

pub returns-clause-blank : goal.returns-clause-blank
returns-clause-blank c i h = c.equal_to.ensures i h ∙ space_is (get_or c.args.lanes i 0) (c.has_control.ensures c.if-has_control.false i h)

pub returns-clause-control : goal.returns-clause-control
returns-clause-control c i h = is_set-zero i ∙ sym (c.has_control.ensures c.if-has_control.false i h)
