use Rattle.decimal_order.proofs.Texts.{number_cmp_is}
use Rattle.decimal_order.proofs.WithinLimits.{parts_within}
use Rattle.decimal_order.proofs.order.compare_by_parts.Goals as goal

pub compare_parts-requires-clause-x_within : goal.compare_parts-requires-clause-x_within
compare_parts-requires-clause-x_within c = parts_within c.args.a.now c.in-Some.x c.in-Some.ensures c.requires.a_within_limits

pub compare_parts-requires-clause-y_within : goal.compare_parts-requires-clause-y_within
compare_parts-requires-clause-y_within c = parts_within c.args.b.now c.in-Some-split.y c.in-Some-split.ensures c.requires.b_within_limits

pub returns : goal.returns
returns c = number_cmp_is c.args.a.now c.args.b.now c.in-Some.x c.in-Some-split.y c.compare_parts.result c.in-Some.ensures c.in-Some-split.ensures c.compare_parts.ensures
