use Rattle.string_spans.proofs.Folds.{unfolded, folded, whole}
use Rattle.string_spans.proofs.prefix_parity.Goals as goal

pub returns : goal.returns
returns c =
    let w = c.args.w in
    whole w _ (folded w 32 _ (folded w 16 _ (folded w 8 _ (folded w 4 _ (folded w 2 _ (folded w 1 _ (unfolded w)))))))
