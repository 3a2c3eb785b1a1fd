use Rattle.std.proofs.Common.{◌≤◌, ◌<◌}
use Rattle.json_tape.specs.Document.{count}
use Rattle.tape_values.proofs.indexes.element_by_number.Given as goal

abbrev pub invariant-loop-turn : goal.invariant-loop-turn
invariant-loop-turn l = record {
  end : l.high ≤ count l.doc;
  least : l.from ≤ l.place;
  most : l.place < l.to;
}
