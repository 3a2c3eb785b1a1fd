use Rattle.std.proofs.Common.{◌<◌}
use Rattle.json_tape.specs.Document.{count}
use Rattle.tape_values.proofs.indexes.child_around.Given as goal

abbrev pub invariant-loop-up : goal.invariant-loop-up
invariant-loop-up l = l.p.0 < count l.doc

abbrev pub decreases-loop-up : goal.decreases-loop-up
decreases-loop-up l = l.p.0
