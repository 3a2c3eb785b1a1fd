use Rattle.std.proofs.Common.{◌-◌, ◌<◌, ◌≤◌, ℕ}
use Rattle.query_machine.specs.Cursors.{IsPassed}
use Rattle.query_machine.proofs.visits.next_found.Given as goal

abbrev pub invariant-loop-k : goal.invariant-loop-k
invariant-loop-k l = record {
  most : l.k ≤ l.to;
  least : l.from ≤ l.k;
  passed : (j : ℕ) → l.from ≤ j → j < l.k → IsPassed l.doc l.stage j;
}

abbrev pub decreases-loop-k : goal.decreases-loop-k
decreases-loop-k l = l.to - l.k
