use Rattle.std.proofs.Common.{arith}
use Rattle.condition_reader.proofs.Exprs.{paths_more}
use Rattle.condition_reader.proofs.reading.are_one_path.Goals as goal

pub loop-i-preserved : goal.loop-i-preserved
loop-i-preserved c =
    let sized = c.loop-i.invariant.sized in
    let inside = c.loop-i-test.true in
    record {
      sized = sized;
      same = paths_more c.args.a.now c.args.b.now c.loop-i.i c.index-a-i.result c.index-b-i.result inside (omega arith) c.index-a-i.is c.index-b-i.is (c.are_one_segment.ensures c.if-not-are_one_segment.false) c.loop-i.invariant.same;
    }
