use Rattle.std.proofs.Common.{arith, length-take, sym}
use Rattle.std.proofs.lemmas.List.{take_all}
use Rattle.admin_connections.proofs.desk.front.Goals as goal

pub slice_bounds-result-end : goal.slice_bounds-result-end
slice_bounds-result-end c = omega (arith, length-take 16384 c.args.bytes.now, c.if-bytes-gt-MOST_WRITTEN.true)

pub returns-else-bytes-gt-MOST_WRITTEN : goal.returns-else-bytes-gt-MOST_WRITTEN
returns-else-bytes-gt-MOST_WRITTEN c = sym (take_all 16384 c.args.bytes.now (omega (arith, c.if-bytes-gt-MOST_WRITTEN.false)))
