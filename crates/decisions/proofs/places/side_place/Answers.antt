use Rattle.std.proofs.Common.{rules}
use Rattle.std.specs.Ordering.{is_lt, is_le}
use Rattle.std.proofs.lemmas.List.Sorted.{IsPartitionPoint-from_clause}
use Rattle.decisions.specs.Order.{value_cmp}
use Rattle.decisions.specs.Views.{constant_value}
use Rattle.decisions.proofs.Sorting.{parted_below, parted_most, placed}
use Rattle.decisions.proofs.places.side_place.Goals as goal

pub returns-clause-place : goal.returns-clause-place
returns-clause-place g c =
    let n = c.orders_values.ensures.numbers in
    let xs = c.args.literals.now in
    let v = g.S.ComparedSide.value c.args.side.now in
    placed xs v _ _ c.partition_point-below.ensures.bound c.partition_point-most.ensures.bound
    (IsPartitionPoint-from_clause (λ x. is_lt (value_cmp (constant_value x) v)) _ _ c.partition_point-below.ensures.partitioned (parted_below n xs c.requires v) (λ a r q k. search rules))
    (IsPartitionPoint-from_clause (λ x. is_le (value_cmp (constant_value x) v)) _ _ c.partition_point-most.ensures.partitioned (parted_most n xs c.requires v) (λ a r q k. search rules))
