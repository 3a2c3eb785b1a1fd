use Rattle.std.proofs.Common.{◌++◌, length, ap₂}
use Rattle.std.proofs.lemmas.List.{drop-replicate}
use Rattle.byte_masks.proofs.tail.Goals as goal

pub returns : goal.returns
returns c = ap₂ (λ x y. x ++ y) c.copy_from_slice.ensures.after (drop-replicate (length c.args.bytes.now) 64 32)
