use Rattle.std.proofs.Common.{arith, rules, true, ◌≡◌, ◌+◌}
use Rattle.std.proofs.lemmas.Result.{err_from_is_err_and}
use Rattle.json_tape.specs.Document.{node_at}
use Rattle.query_plan.specs.Planned.{claims_of}
use Rattle.query_machine.specs.Stacks.{segments_in, Follows}
use Rattle.query_machine.proofs.Stacks.{claimed_stage, in_turn, put_nothing, put_refused, put_whole, segment_total}
use Rattle.query_machine.proofs.placing.put.Goals as goal
use Rattle.std.proofs.Common.{Some}

pub returns-in_default-clause-puts : goal.returns-in_default-clause-puts
returns-in_default-clause-puts c =
    let d = c.args.doc.now in
    put_nothing d (segments_in c.args.stages.now) c.args.number c.in_ok-at.at (node_at d c.args.n.0) c.in_ok-at.found c.args.out.now.items c.args.state.now.meter.left c.followed_on.new.meter.left (search rules) c.requires.sound c.in_ok-at.ensures.follows

pub take_whole-requires-clause-claimed : goal.take_whole-requires-clause-claimed
take_whole-requires-clause-claimed c =
    let end = c.if-next-stages-2.true in
    claimed_stage (claims_of c.args.plan.now.stages.items) c.args.stages.now (c.in_ok-at.at + 1) c.index-stages-next.result (omega (arith, end)) c.index-stages-next.is c.requires.claimed

pub returns-in_err-take_whole-clause-puts : goal.returns-in_err-take_whole-clause-puts
returns-in_err-take_whole-clause-puts c =
    let d = c.args.doc.now in
    let ss = c.args.stages.now in
    let to = c.in_ok-at.at in
    let end = c.if-next-stages-2.true in
    let total = segment_total ss in
    let is = in_turn ss (to + 1) c.index-stages-next.result (omega (arith, end)) c.index-stages-next.is in
    let f : Follows d (segments_in ss) c.args.number (node_at d c.args.n.0) to (Some c.in-Some.node) c.args.state.now.meter.left c.followed_on.new.meter.left = rw c.in-Some.is at c.in_ok-at.ensures.follows in
    let p = err_from_is_err_and c.from_residual-in_err-take_whole.result c.from_residual-in_err-take_whole.ensures.1 in
    rw (p.1, p.2)
    (put_refused d (segments_in ss) c.args.number to (node_at d c.args.n.0) c.in-Some.node c.args.out.now.items c.args.state.now.meter.left c.followed_on.new.meter.left f (omega (arith, end, total)) c.in_err-take_whole.field-0.0 (rw is c.in_err-take_whole.ensures.takes))

pub returns-then-branch-clause-puts : goal.returns-then-branch-clause-puts
returns-then-branch-clause-puts c =
    let d = c.args.doc.now in
    let ss = c.args.stages.now in
    let to = c.in_ok-at.at in
    let end = c.if-next-stages-2.true in
    let total = segment_total ss in
    let is = in_turn ss (to + 1) c.index-stages-next.result (omega (arith, end)) c.index-stages-next.is in
    let f : Follows d (segments_in ss) c.args.number (node_at d c.args.n.0) to (Some c.in-Some.node) c.args.state.now.meter.left c.followed_on.new.meter.left = rw c.in-Some.is at c.in_ok-at.ensures.follows in
    let taken : c.in_ok-take_whole.field-0 ≡ true = search rules in
    put_whole d (segments_in ss) c.args.number to (node_at d c.args.n.0) c.in-Some.node c.args.out.now.items c.args.state.now.meter.left c.followed_on.new.meter.left f (omega (arith, end, total)) c.take_whole.new.out.items c.take_whole.new.state.meter.left (rw is (rw taken at c.in_ok-take_whole.ensures.takes))
