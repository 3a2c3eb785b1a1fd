use Rattle.query_machine.proofs.Steps.{passes}
use Rattle.query_machine.proofs.cursor.pass_visit.Goals as goal

pub returns : goal.returns
returns c =
    let r = c.requires in
    passes c.args.doc.now c.args.stage.now c.args.c.now r.child r.stride r.visits r.end c.args.meter.now.left r.passed r.fits
