use Rattle.std.proofs.Common.{refl}
use Rattle.query_machine.specs.Levels.{rest_of}
use Rattle.query_machine.specs.Stacks.{segments_in}
use Rattle.query_machine.specs.declared.levels.Machine.{Machine}
use Rattle.query_machine.proofs.Above.{ran_if, way_of}
use Rattle.query_machine.proofs.levels.run_top.Goals as goal

pub run-requires-clause-under_way : goal.run-requires-clause-under_way
run-requires-clause-under_way c =
    let m = c.args.machine.now in
    way_of c.args.doc.now c.args.plan.now c.args.units (rest_of c.args.doc.now c.args.plan.now m) m.below.items m.origin (segments_in c.args.stages.now) c.requires.same m.track m.state.meter.left c.requires.on_way.stack

pub returns : goal.returns
returns c =
    let m = c.args.machine.now in
    let next : Machine = record { origin = m.origin; track = c.run.new.track; state = c.run.new.state; below = m.below } in
    let e = c.run.ensures in
    ran_if c.args.doc.now c.args.plan.now c.args.units (segments_in c.args.stages.now) m next c.requires.same c.args.least c.run.result c.requires.on_way e.kept refl refl e.goes e.little c.requires.least
