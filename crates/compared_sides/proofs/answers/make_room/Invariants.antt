use Rattle.compared_sides.specs.Answered.{AreRight}
use Rattle.compared_sides.proofs.answers.make_room.Given as goal

abbrev pub invariant-loop : goal.invariant-loop
invariant-loop l = AreRight l.doc l.table.items
