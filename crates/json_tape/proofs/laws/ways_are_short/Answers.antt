use Rattle.json_tape.specs.Document.{count}
use Rattle.std.proofs.Common.{arith}
use Rattle.json_tape.proofs.Readers.{text_short}
use Rattle.json_tape.proofs.WaySizes.{way_within}
use Rattle.json_tape.proofs.laws.ways_are_short.Goals as goal

pub returns : goal.returns
unfolding count
returns c = grind (arith, way_within, text_short)
