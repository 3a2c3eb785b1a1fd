use Rattle.query_machine.specs.Levels.{left_in, rest_of, IsOneStep, IsOnWay}
use Rattle.query_machine.proofs.evaluation.advance.Given as goal

abbrev pub invariant-loop : goal.invariant-loop
invariant-loop l = record {
  on : IsOnWay l.doc l.plan l.units (rest_of l.doc l.plan l.initial.machine) l.machine;
  little : IsOneStep l.doc l.plan l.least (left_in l.machine);
}
