use Rattle.std.proofs.Common.{◌+◌, ◌-◌, arith}
use Rattle.tape_values.proofs.Settled.{block_same}
use Rattle.tape_values.proofs.fronts.common.Goals as goal

pub loop-at-preserved : goal.loop-at-preserved
loop-at-preserved c =
    let i = c.loop-at.invariant in
    let t = c.loop-at-test.true in
    let within = i.within in
    record {
      within = omega (arith, t, within);
      same = block_same c.args.a.now c.args.b.now c.loop-at.at (c.loop-at.at + 256 - c.loop-at.at) 256 (omega arith) i.same c.if-eq.ensures;
    }
