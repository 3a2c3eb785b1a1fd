use Rattle.std.proofs.Common.{arith}
use Rattle.structural_index.proofs.Runs.{run_digits, none_known}
use Rattle.structural_index.proofs.looks.others.Goals as goal

pub returns-then-len-ge-WIDE_LANES : goal.returns-then-len-ge-WIDE_LANES
returns-then-len-ge-WIDE_LANES c = none_known _

pub returns : goal.returns
returns c = let few = c.if-len-ge-WIDE_LANES.false in run_digits c.args.bytes.now c.args.from c.args.len c.non_digits.result c.requires (omega (arith, few)) c.non_digits.ensures
