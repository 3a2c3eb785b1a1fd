use Rattle.std.proofs.Common.{◌≡◌}
use Rattle.std.specs.List.{fold}
use Rattle.structural_index.specs.Bits.{set_bits_from}
use Rattle.structural_index.specs.Blocks.{after_escape}
use Rattle.structural_index.proofs.escapes.judge_all.Given as goal

abbrev pub invariant-loop-rest : goal.invariant-loop-rest
invariant-loop-rest l = fold (after_escape l.text) l.found (set_bits_from l.from l.rest) ≡ fold (after_escape l.text) l.fn.found (set_bits_from l.from l.escapes)

abbrev pub decreases-loop-rest : goal.decreases-loop-rest
decreases-loop-rest l = l.rest
