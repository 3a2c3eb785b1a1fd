use Rattle.std.proofs.Common.{◌≡◌, ◌-◌, drop}
use Rattle.json_tape.specs.Document.{following, IsIn}
use Rattle.tape_values.proofs.indexes.skip.Given as goal

abbrev pub invariant-loop : goal.invariant-loop
invariant-loop l = record {
  same : drop (l.place - l.counter) (following l.doc l.child) ≡ drop l.place (following l.doc l.initial.child);
  inside : IsIn l.doc l.child;
}
