use Rattle.std.proofs.Common.{◌-◌, ◌<◌, ◌≤◌, length}
use Rattle.structural_index.specs.Seams.{AreUnstopped}
use Rattle.structural_index.proofs.looks.unstopped_end.Given as goal

abbrev pub invariant-loop-k : goal.invariant-loop-k
invariant-loop-k l = record {
  from : l.from ≤ l.k;
  to : l.k < length l.bytes;
  each : AreUnstopped l.bytes l.from l.k;
}

abbrev pub decreases-loop-k : goal.decreases-loop-k
decreases-loop-k l = length l.bytes - l.k
