use Rattle.std.proofs.Common.{arith}
use Rattle.json_strings.proofs.Beginnings.{begin_mask}
use Rattle.json_strings.proofs.characters.beginnings.Goals as goal

pub returns : goal.returns
returns c = begin_mask 32 c.args.lanes (omega arith) (omega arith)
