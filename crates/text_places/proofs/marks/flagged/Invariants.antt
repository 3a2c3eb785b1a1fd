use Rattle.json_text.proofs.Names.{◌≡◌, length}
use Rattle.text_places.specs.Marks.{AreFlagged}
use Rattle.text_places.proofs.marks.flagged.Given as goal

abbrev pub invariant-loop-i : goal.invariant-loop-i
invariant-loop-i l = (length l.flags.items ≡ l.values) × AreFlagged l.values l.suspects l.flags.items l.i
