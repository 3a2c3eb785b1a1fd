use Rattle.std.proofs.Common.{arith}
use Rattle.query_machine.specs.Stacks.{segments_in}
use Rattle.query_machine.proofs.Stacks.{spends_less, stays}
use Rattle.query_machine.proofs.runs.run.Goals as goal

pub loop-init : goal.loop-init
loop-init c =
    let d = c.args.doc.now in
    let ss = segments_in c.args.stages.now in
    let left = c.args.state.now.meter.left in
    record { goes = stays d ss c.args.track.now left c.requires.under_way; little = λ h. spends_less d ss c.args.least left (omega (arith, h)); kept = c.requires.kept }
