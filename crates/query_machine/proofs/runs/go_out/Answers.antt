use Rattle.std.proofs.Common.{arith, rules, true, ◌≡◌}
use Rattle.std.proofs.lemmas.Result.{err_from_is_err_and}
use Rattle.query_machine.proofs.Leaves.{drains_visit, refuses_visit}
use Rattle.query_machine.proofs.runs.go_out.Goals as goal

pub returns-in_err-take_whole-in-None-clause-drains : goal.returns-in_err-take_whole-in-None-clause-drains
returns-in_err-take_whole-in-None-clause-drains c =
    let u = c.args.c.now in
    let r = c.requires in
    let passed = c.if-c.false in
    let fresh = c.if-c-ne0.false in
    let within = c.if-c-after.false in
    let past = c.after-after.ensures.past in
    let down : c.args.stage.now.descend ≡ true = search rules in
    let p = err_from_is_err_and c.from_residual-in_err-take_whole-in-None.result c.from_residual-in_err-take_whole-in-None.ensures.1 in
    rw (p.1, p.2)
    (refuses_visit c.args.doc.now c.args.stage.now u c.in-None.is (omega (arith, passed)) (omega (arith, fresh)) r.end r.stride c.numbers_split_nodes.ensures c.after-after.result c.args.state.now.meter.left c.in_err-take_whole-in-None.field-0.0 down (omega (arith, past)) (omega (arith, within)) c.after-after.ensures.nodes c.in_err-take_whole-in-None.ensures.takes)

pub returns-else-not-branch-clause-drains : goal.returns-else-not-branch-clause-drains
returns-else-not-branch-clause-drains c =
    let u = c.args.c.now in
    let r = c.requires in
    let passed = c.if-c.false in
    let fresh = c.if-c-ne0.false in
    let within = c.if-c-after.false in
    let past = c.after-after.ensures.past in
    let down : c.args.stage.now.descend ≡ true = search rules in
    let taken : c.in_ok-take_whole-in-None.field-0 ≡ true = search rules in
    drains_visit c.args.doc.now c.args.stage.now u c.in-None.is (omega (arith, passed)) (omega (arith, fresh)) r.end r.stride c.numbers_split_nodes.ensures c.after-after.result c.args.out.now.items c.take_whole.new.out.items c.args.state.now.meter.left c.take_whole.new.state.meter.left down (omega (arith, past)) (omega (arith, within)) c.after-after.ensures.nodes
    (rw taken at c.in_ok-take_whole-in-None.ensures.takes)
