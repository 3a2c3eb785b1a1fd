use Rattle.std.proofs.Common.{arith}
use Rattle.query_plan.specs.Planned.{claims_of}
use Rattle.query_machine.specs.Levels.{rest_of}
use Rattle.query_machine.proofs.Above.{ends_above, found_above, right_again}
use Rattle.query_machine.proofs.levels.end_above.Goals as goal

pub overflow_sub-charge : goal.overflow_sub-charge
overflow_sub-charge c =
    let m = c.args.machine.now in
    let e = ends_above c.args.doc.now c.args.plan.now c.args.units (rest_of c.args.doc.now c.args.plan.now m) m c.pop.new.self.items c.in-Some.below (rw c.in-Some.is at c.pop.ensures.items) c.requires.ended c.requires.on_way in
    let p = e.paid in
    omega (arith, p)

pub found_in-found-requires : goal.found_in-found-requires
found_in-found-requires c =
    let m = c.args.machine.now in
    let e = ends_above c.args.doc.now c.args.plan.now c.args.units (rest_of c.args.doc.now c.args.plan.now m) m c.pop.new.self.items c.in-Some.below (rw c.in-Some.is at c.pop.ensures.items) c.requires.ended c.requires.on_way in
    rw c.deref.ensures.value e.held.inside

pub keep_found-requires-clause-found : goal.keep_found-requires-clause-found
keep_found-requires-clause-found c =
    let m = c.args.machine.now in
    let e = ends_above c.args.doc.now c.args.plan.now c.args.units (rest_of c.args.doc.now c.args.plan.now m) m c.pop.new.self.items c.in-Some.below (rw c.in-Some.is at c.pop.ensures.items) c.requires.ended c.requires.on_way in
    found_above c.args.doc.now c.args.plan.now m.origin m.track.out.items m.state.meter.left c.found_in-found.result e.held e.paid
    (rw c.deref.ensures.value at c.found_in-found.ensures.value) c.found_in-found.ensures.inside (rw c.deref.ensures.value at c.found_in-found.ensures.total) c.found_in-found.ensures.charge

pub returns-clause-moved : goal.returns-clause-moved
returns-clause-moved c =
    let m = c.args.machine.now in
    let e = ends_above c.args.doc.now c.args.plan.now c.args.units (rest_of c.args.doc.now c.args.plan.now m) m c.pop.new.self.items c.in-Some.below (rw c.in-Some.is at c.pop.ensures.items) c.requires.ended c.requires.on_way in
    let k = c.requires.on_way.kept in
    record { stack = e.below; kept = (right_again c.args.doc.now (claims_of c.args.plan.now.stages.items) m.state.slots.len c.keep_found.new.slots m.state.slots.items c.keep_found.ensures k.0, k.1, k.2, k.3) }

pub returns-clause-left : goal.returns-clause-left
returns-clause-left c =
    let m = c.args.machine.now in
    (ends_above c.args.doc.now c.args.plan.now c.args.units (rest_of c.args.doc.now c.args.plan.now m) m c.pop.new.self.items c.in-Some.below (rw c.in-Some.is at c.pop.ensures.items) c.requires.ended c.requires.on_way).lent
