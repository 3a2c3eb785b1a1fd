use Rattle.json_text.proofs.Names.{◌≡◌, drop}
use Rattle.text_places.specs.Marks.{number_from}
use Rattle.text_places.proofs.marks.number_from.Given as goal

abbrev pub invariant-loop-i : goal.invariant-loop-i
invariant-loop-i l = number_from l.all (drop l.i l.bytes) ≡ number_from l.number l.bytes
