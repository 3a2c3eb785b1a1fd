use Rattle.json_text.proofs.Names.{◌≡◌, length}
use Rattle.text_places.specs.Marks.{KeepsShared}
use Rattle.text_places.proofs.marks.keep_shared.Given as goal

abbrev pub invariant-loop-n : goal.invariant-loop-n
invariant-loop-n l = (length l.marks.items ≡ length l.fn.marks.items) × KeepsShared l.fn.marks.items l.marks.items
