use Rattle.std.proofs.Common.{◌∙◌, ap, arith, get_or, nat_le, refl, replicate}
use Rattle.std.proofs.lemmas.Simd.{get_or-replicate}
use Rattle.byte_masks.proofs.Lanes.{compared_at}
use Rattle.byte_masks.proofs.high_bytes.Goals as goal

pub returns : goal.returns
returns c i h =
    compared_at nat_le 64 (replicate 64 0x80) c.args.lanes (omega arith) refl c.fits-lanes.0 i h
    ∙ ap (λ least. nat_le least (get_or c.args.lanes i 0)) (get_or-replicate 64 i 0x80 0 h)
