use Rattle.std.proofs.Common.{◌≡◌, ℕ, ◌<◌, ◌≤◌, length, get_or}
use Rattle.name_order.specs.Orders.{high_half}
use Rattle.name_order.proofs.order.run_end.Given as goal

abbrev pub invariant-loop-to : goal.invariant-loop-to
invariant-loop-to l = (l.from < l.to) × (l.to ≤ length l.words) × ((k : ℕ) → l.from ≤ k → k < l.to → high_half (get_or l.words k 0) ≡ high_half (get_or l.words l.from 0))
