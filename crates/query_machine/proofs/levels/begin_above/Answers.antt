use Rattle.std.proofs.Common.{arith, refl, ◌≤◌, ◌+◌}
use Rattle.std.proofs.lemmas.Result.{err_from_is_err_and}
use Rattle.query_plan.specs.Planned.{claims_of}
use Rattle.query_machine.specs.Cursors.{price}
use Rattle.query_machine.specs.Levels.{left_in, rest_of, top_segments}
use Rattle.query_machine.specs.Stacks.{segment_at, whole_due}
use Rattle.query_machine.proofs.Charges.{refuses_from}
use Rattle.query_machine.proofs.Above.{begins_above, finds_nothing, links_within, little_or, little_step, opens_or, refuses_links, refuses_whole, right_again}
use Rattle.query_machine.proofs.levels.begin_above.Goals as goal

pub returns-in_err-spend-clause-moved : goal.returns-in_err-spend-clause-moved
returns-in_err-spend-clause-moved c =
    let d = c.args.doc.now in
    let m = c.args.machine.now in
    let plan = c.args.plan.now in
    let due = whole_due d (top_segments plan m.below.items m.origin) m.track in
    let part = c.requires.awaits.within in
    let p = err_from_is_err_and c.from_residual.result c.from_residual.ensures.1 in
    rw (p.1, p.2)
    (refuses_whole d plan c.args.units (rest_of d plan m) m.below.items m.origin m.track m.state.meter.left c.in_err-spend.field-0.0 c.requires.on_way.stack
    (refuses_from c.args.paid m.state.meter.left due m.state.meter.left c.in_err-spend.field-0.0 (λ lt. omega (arith, part, lt)) c.in_err-spend.ensures))

pub returns-in_err-first-clause-moved : goal.returns-in_err-first-clause-moved
returns-in_err-first-clause-moved c =
    let d = c.args.doc.now in
    let m = c.args.machine.now in
    let plan = c.args.plan.now in
    let due = whole_due d (top_segments plan m.below.items m.origin) m.track in
    let p = err_from_is_err_and c.from_residual-in_err-first.result c.from_residual-in_err-first.ensures.1 in
    rw (p.1, p.2)
    (refuses_whole d plan c.args.units (rest_of d plan m) m.below.items m.origin m.track m.state.meter.left c.in_err-first.field-0.0 c.requires.on_way.stack
    (refuses_links c.follows_links.ensures d plan c.args.query.now c.in-Some.slot c.in-Some.is c.requires.awaits.claimed c.args.child c.beginning-from.result m.state.meter.left c.args.paid c.spend.new.self.left due c.in_err-first.field-0.0 c.beginning-from.ensures.begins
    c.requires.awaits.within c.in_ok-spend.ensures (rw c.deref.ensures.value at c.in_err-first.ensures)))

pub put_above-requires-clause-above : goal.put_above-requires-clause-above
put_above-requires-clause-above c =
    let d = c.args.doc.now in
    let m = c.args.machine.now in
    let plan = c.args.plan.now in
    let due = whole_due d (top_segments plan m.below.items m.origin) m.track in
    let g = rw (c.in-Some-2.is, c.deref.ensures.value) at c.in_ok-first.ensures in
    rw c.deref-in-Some-2.ensures.value
    (begins_above c.follows_links.ensures d plan c.args.query.now c.in-Some.slot c.in-Some.is c.requires.awaits.claimed c.args.child c.beginning-from.result c.in-Some-2.first m.state.meter.left c.args.paid c.spend.new.self.left c.followed.new.meter.left due
    c.beginning-from.ensures.inside c.beginning-from.ensures.begins c.requires.awaits.within c.in_ok-spend.ensures g.0 g.2)

pub returns-in-Some-2-clause-moved : goal.returns-in-Some-2-clause-moved
returns-in-Some-2-clause-moved c = opens_or c.args.doc.now c.args.plan.now c.args.units (rest_of c.args.doc.now c.args.plan.now c.args.machine.now) c.put_above.result c.put_above.new.machine c.put_above.ensures.moved

pub returns-in-Some-2-clause-little : goal.returns-in-Some-2-clause-little
returns-in-Some-2-clause-little c =
    let d = c.args.doc.now in
    let m = c.args.machine.now in
    let plan = c.args.plan.now in
    let ss = top_segments plan m.below.items m.origin in
    let g = rw (c.in-Some-2.is, c.deref.ensures.value) at c.in_ok-first.ensures in
    let u = c.requires.little.0 in
    let w = c.requires.little.1.within in
    let few : m.state.meter.left ≤ c.followed.new.meter.left + price d (segment_at ss u.stage) u =
    links_within c.follows_links.ensures d plan c.args.query.now c.in-Some.slot c.in-Some.is c.requires.awaits.claimed c.args.child c.beginning-from.result m.state.meter.left c.args.paid c.spend.new.self.left c.followed.new.meter.left (price d (segment_at ss u.stage) u)
    c.beginning-from.ensures.begins w c.in_ok-spend.ensures g.2 in
    little_or d plan m.state.meter.left (left_in c.put_above.new.machine) c.followed.new.meter.left c.put_above.result c.put_above.ensures.left
    (little_step d plan c.args.units (rest_of d plan m) m.below.items m.origin ss refl m.state.meter.left c.followed.new.meter.left (u, few))

pub keep_found-requires-clause-found : goal.keep_found-requires-clause-found
keep_found-requires-clause-found c =
    let d = c.args.doc.now in
    let plan = c.args.plan.now in
    let g = rw (c.in-None.is, c.deref.ensures.value) at c.in_ok-first.ensures in
    finds_nothing c.follows_links.ensures d plan c.args.query.now c.in-Some.slot c.in-Some.is c.requires.awaits.claimed c.beginning-from.result c.spend.new.self.left c.followed.new.meter.left c.found_in-found.result g.0 g.2 c.found_in-found.ensures.value
    c.found_in-found.ensures.inside c.found_in-found.ensures.total c.found_in-found.ensures.charge

pub returns-in-None-clause-moved : goal.returns-in-None-clause-moved
returns-in-None-clause-moved c =
    let k = c.requires.on_way.kept in
    record { stack = c.requires.on_way.stack; kept = (right_again c.args.doc.now (claims_of c.args.plan.now.stages.items) c.args.machine.now.state.slots.len c.keep_found.new.slots c.args.machine.now.state.slots.items c.keep_found.ensures k.0, k.1, k.2, k.3) }
