use Rattle.std.proofs.Common.{◌+◌, get_or, arith}
use lib.Lanes.{chunk}
use Rattle.structural_index.proofs.Lanes.{loaded, range_lane}
use Rattle.structural_index.proofs.looks.non_digits.Goals as goal

pub returns : goal.returns
returns c = λ k inside clear.
    let bytes = c.args.bytes.now in
    let at = c.args.at in
    let digit = range_lane 32 k 48 58 (chunk at 32 bytes) (get_or bytes (at + k) 0) (omega arith) inside (loaded bytes at 32 k c.requires inside) clear in
    let high = digit.1 in
    (digit.0, omega arith)
