use Rattle.std.proofs.Common.{rules}
use Rattle.decisions.proofs.Sorting.{sorted_by}
use Rattle.decisions.proofs.gathering.in_order.Goals as goal

pub returns-clause-sorted : goal.returns-clause-sorted
returns-clause-sorted c = sorted_by c.orders_values.ensures.numbers _ c.in_ok-sort_by.ensures.sorted (λ a r q k. search rules)
