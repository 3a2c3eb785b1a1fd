use Rattle.std.proofs.Common.{◌≡◌}
use Rattle.query_machine.specs.Levels.{left_in, rest_of, top_segments, IsOneStep, IsOnWay}
use Rattle.query_machine.specs.Stacks.{segments_in}
use Rattle.query_machine.proofs.levels.run_on.Given as goal

abbrev pub invariant-loop : goal.invariant-loop
invariant-loop l = record {
  on_way : IsOnWay l.doc l.plan l.units (rest_of l.doc l.plan l.machine) l.machine;
  rest : rest_of l.doc l.plan l.machine ≡ rest_of l.doc l.plan l.initial.machine;
  same : segments_in l.stages ≡ top_segments l.plan l.machine.below.items l.machine.origin;
  little : IsOneStep l.doc l.plan l.least (left_in l.machine);
}
