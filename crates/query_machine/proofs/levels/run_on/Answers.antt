use Rattle.std.proofs.Common.{List, ◌≡◌, ◌∙◌, arith, ap, sym}
use Rattle.query_machine.specs.Levels.{left_in, rest_of, top_segments}
use Rattle.query_machine.specs.Stacks.{segments_in}
use Rattle.query_machine.specs.declared.levels.Origin.{Origin}
use Rattle.query_machine.specs.declared.levels.Waiting.{Waiting}
use Rattle.query_machine.proofs.Above.{further_if, way_of}
use Rattle.query_machine.proofs.levels.run_on.Goals as goal

pub next_query-requires-clause-under_way : goal.next_query-requires-clause-under_way
next_query-requires-clause-under_way c =
    let plan = c.args.plan.now in
    let l = c.loop.machine in
    let m = c.run_top.new.machine in
    let r = c.in_ok-run_top.ensures in
    let same : segments_in c.in-Some.stages.now ≡ top_segments plan m.below.items m.origin =
    c.loop.invariant.same ∙ ap (λ (ws : List Waiting). top_segments plan ws l.origin) (sym r.below) ∙ ap (λ (o : Origin). top_segments plan m.below.items o) (sym r.origin) in
    way_of c.args.doc.now plan c.args.units (rest_of c.args.doc.now plan m) m.below.items m.origin (segments_in c.in-Some.stages.now) same m.track m.state.meter.left r.on_way.stack

pub returns-in-Some-query-clause-little : goal.returns-in-Some-query-clause-little
returns-in-Some-query-clause-little c =
    let not_less = c.if-machine-least-2.false in
    further_if c.args.doc.now c.args.plan.now c.args.least (left_in c.run_top.new.machine) (left_in c.begin_above.new.machine) c.begin_above.result (omega (arith, not_less)) c.begin_above.ensures.little
