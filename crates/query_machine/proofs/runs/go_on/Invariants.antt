use Rattle.std.proofs.Common.{None}
use Rattle.query_plan.specs.Planned.{claims_of}
use Rattle.tape_select.specs.Memo.{Keeps}
use Rattle.query_machine.specs.Stacks.{segments_in, Gives, IsOneStep}
use Rattle.query_machine.proofs.runs.go_on.Given as goal

abbrev pub invariant-loop : goal.invariant-loop
invariant-loop l = record {
  gives : Gives l.doc (segments_in l.stages) l.initial.c l.c None l.initial.out.items l.out.items l.initial.state.meter.left l.state.meter.left;
  little : IsOneStep l.doc (segments_in l.stages) l.least l.state.meter.left;
  kept : Keeps l.doc (claims_of l.plan.stages.items) l.state;
}
