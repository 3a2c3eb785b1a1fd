use Rattle.std.proofs.Common.{get_or, arith}
use lib.Bits.{bit_or}
use Rattle.byte_masks.proofs.Classes.{ops_found}
use Rattle.byte_masks.proofs.Lanes.{masked, byte_at}
use Rattle.byte_masks.proofs.near_ops.Goals as goal

pub returns : goal.returns
returns c i h = let lanes = c.args.lanes in grind (arith, c.found_in.ensures i h, masked (λ a b. bit_or a b) lanes 64 0x20 i c.fits-lanes.0 h, ops_found (get_or lanes i 0) (byte_at lanes i (omega (arith, c.fits-lanes.0)) c.fits-lanes.1))
