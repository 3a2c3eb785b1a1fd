use Rattle.json_text.proofs.Names.{◌≡◌, length}
use Rattle.text_places.specs.Marks.{AreCounted}
use Rattle.text_places.proofs.marks.counted.Given as goal

abbrev pub invariant-loop-n : goal.invariant-loop-n
invariant-loop-n l = (length l.counts.items ≡ 2097152) × AreCounted l.factor l.marks l.counts.items l.n
