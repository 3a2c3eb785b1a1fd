use Rattle.std.proofs.Common.{◌≡◌, ◌+◌, ◌<◌, length}
use Rattle.std.specs.List.{All}
use Rattle.condition_reader.proofs.groups.grouped.Given as goal

abbrev pub invariant-loop-operand : goal.invariant-loop-operand
invariant-loop-operand l = record {
  each : length l.numbers.items ≡ l.operand-index;
  below : All (λ k. k < length l.firsts.items + 1) l.numbers.items;
}
