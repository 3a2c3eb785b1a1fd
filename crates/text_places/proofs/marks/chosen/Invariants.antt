use Rattle.json_text.proofs.Names.{◌≡◌, length}
use Rattle.text_places.specs.Marks.{AreChosen}
use Rattle.text_places.proofs.marks.chosen.Given as goal

abbrev pub invariant-loop-n : goal.invariant-loop-n
invariant-loop-n l = (length l.marks.items ≡ l.n) × AreChosen l.tape l.flags l.marks.items l.n
