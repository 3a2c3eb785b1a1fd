use Rattle.std.proofs.Common.{◌+◌, ◌-◌, ◌≤◌}
use Rattle.std.specs.Prelude.{vec_len, vec_capacity}
use Rattle.query_machine.specs.Stacks.{Emits}
use Rattle.query_machine.proofs.runs.emit_from.Given as goal

abbrev pub invariant-loop-sent : goal.invariant-loop-sent
invariant-loop-sent l = record {
  emitted : Emits l.doc l.fn.first l.child l.fn.out.items l.out.items l.fn.meter.left l.meter.left;
  little : l.least ≤ l.fn.meter.left → l.least ≤ l.meter.left + 1;
  room : vec_len l.out + (64 - l._sent) ≤ vec_capacity l.out;
}
