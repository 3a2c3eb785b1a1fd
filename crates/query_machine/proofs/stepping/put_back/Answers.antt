use Rattle.std.proofs.Common.{arith}
use Rattle.query_machine.specs.Stacks.{segments_in}
use Rattle.query_machine.proofs.Stacks.{ends, in_turn, put_again_if, segment_total}
use Rattle.query_machine.proofs.stepping.put_back.Goals as goal

pub returns-then-is_through : goal.returns-then-is_through
returns-then-is_through c =
    let ss = c.args.stages.now in
    let total = segment_total ss in
    let at = c.requires.cursor.stage in
    let is = in_turn ss c.args.c.stage c.index-stages-c.result (omega (arith, total, at)) c.index-stages-c.is in
    let e = c.is_through.ensures in
    ends c.args.doc.now (segments_in ss) c.args.c c.args.track.now c.requires.under_way (rw is (e.nodes c.if-is_through.true)) (rw is (e.charge c.if-is_through.true))

pub returns : goal.returns
returns c = put_again_if c.args.doc.now (segments_in c.args.stages.now) c.args.c c.args.track.now c.stack.new.track c.stack.result c.stack.ensures
