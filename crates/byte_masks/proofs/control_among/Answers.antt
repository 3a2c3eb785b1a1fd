use Rattle.std.proofs.Common.{nat_lt, sym, ap, ◌∙◌, arith, replicate, refl, get_or}
use Rattle.std.proofs.lemmas.Simd.{get_or-replicate}
use Rattle.std.proofs.lemmas.Bool.{eqb-true, not-false}
use Rattle.bit_words.specs.Words.{is_set}
use Rattle.bit_words.proofs.Bits.{is_set-zero}
use Rattle.byte_masks.proofs.Lanes.{compared_at}
use Rattle.byte_masks.proofs.control_among.Goals as goal

pub returns : goal.returns
returns c unset i h =
    let lanes = c.args.lanes in
    ap (nat_lt (get_or lanes i 0)) (sym (get_or-replicate 16 i 32 0 h))
    ∙ sym (compared_at nat_lt 16 lanes (replicate 16 32) (omega arith) c.fits-lanes.0 refl i h)
    ∙ ap (λ word. is_set word i) (eqb-true _ 0 (not-false _ unset)) ∙ is_set-zero i
