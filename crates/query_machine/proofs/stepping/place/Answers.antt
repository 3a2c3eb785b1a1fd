use Rattle.std.proofs.Common.{◌+◌, arith}
use Rattle.json_tape.specs.Document.{node_at}
use Rattle.query_machine.specs.Stacks.{segments_in}
use Rattle.query_machine.proofs.Stacks.{in_turn, opened_if, segment_total}
use Rattle.query_machine.proofs.stepping.place.Goals as goal

pub returns : goal.returns
returns c =
    let d = c.args.doc.now in
    let ss = c.args.stages.now in
    let k = c.args.number in
    let lt = c.requires.number in
    let total = segment_total ss in
    let is = in_turn ss (k + 1) c.index-stages-next.result lt c.index-stages-next.is in
    let e = c.cursor_at-c.ensures in
    opened_if d (segments_in ss) k (node_at d c.args.n.0) c.cursor_at-c.result c.args.track.now c.stack.new.track c.stack.result (omega (arith, total, lt)) e.stage (rw is e.nodes) (rw is e.charge) c.stack.ensures
