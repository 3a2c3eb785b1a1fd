use Rattle.std.proofs.Common.{◌≡◌, ◌+◌, ◌-◌, ◌<◌, get_or, arith}
use lib.Lanes.{chunk}
use Rattle.structural_index.proofs.Lanes.{loaded, slashless_lane}
use Rattle.structural_index.proofs.looks.slashless_run.Goals as goal

pub returns-clause-none : goal.returns-clause-none
returns-clause-none c k from to = let text = c.args.bytes.now in let at = c.args.at in let i = k - at in let few = c.lanes_before.ensures.few in let inside : i < 16 = omega arith in let back : at + i ≡ k = omega arith in grind (arith, back, slashless_lane 16 i (chunk at 16 text) (get_or text (at + i) 0) (omega arith) inside (loaded text at 16 i c.requires inside) (c.lanes_before.ensures.clear i (omega arith)))
