use Rattle.std.proofs.Common.{◌-◌, ◌≤◌}
use Rattle.structural_index.specs.Runs.{AreSlashless}
use Rattle.structural_index.proofs.looks.is_slashless.Given as goal

abbrev pub invariant-loop-k : goal.invariant-loop-k
invariant-loop-k l = record {
  from : l.from ≤ l.k;
  each : AreSlashless l.bytes l.from l.k;
}

abbrev pub decreases-loop-k : goal.decreases-loop-k
decreases-loop-k l = l.to - l.k
