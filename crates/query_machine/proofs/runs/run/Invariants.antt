use Rattle.std.proofs.Common.{◌≤◌}
use Rattle.query_machine.specs.Stacks.{segments_in, Goes, IsOneStep}
use Rattle.query_plan.specs.Planned.{claims_of}
use Rattle.tape_select.specs.Memo.{Keeps}
use Rattle.query_machine.proofs.runs.run.Given as goal

abbrev pub invariant-loop : goal.invariant-loop
invariant-loop l = record {
  goes : Goes l.doc (segments_in l.stages) l.initial.track l.track l.initial.state.meter.left l.state.meter.left;
  little : l.least ≤ l.initial.state.meter.left → IsOneStep l.doc (segments_in l.stages) l.least l.state.meter.left;
  kept : Keeps l.doc (claims_of l.plan.stages.items) l.state;
}
