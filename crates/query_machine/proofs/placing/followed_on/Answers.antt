use Rattle.std.proofs.Common.{◌+◌, ◌<◌, ◌∷◌, [], ◌∙◌, length, refl, arith}
use Rattle.std.proofs.lemmas.Result.{err_from_is_err_and}
use Rattle.json_tape.specs.Document.{node_at}
use Rattle.node_lists.specs.Charge.{charge_from}
use Rattle.node_lists.specs.Evaluation.{selected_by}
use Rattle.node_lists.specs.Links.{link_selector}
use Rattle.query_machine.proofs.Charges.{refuses_from}
use Rattle.query_machine.specs.Stacks.{after, segments_in}
use Rattle.query_machine.proofs.Stacks.{in_turn, link_costs, link_followed, segment_total}
use Rattle.query_machine.proofs.placing.followed_on.Goals as goal

pub returns-in_err-spend-clause-follows : goal.returns-in_err-spend-clause-follows
returns-in_err-spend-clause-follows c =
    let d = c.args.doc.now in
    let ss = segments_in c.args.stages.now in
    let k = c.loop-at.at in
    let n = node_at d c.loop-at.node.0 in
    let l = c.in-Some.link.now in
    let total = segment_total c.args.stages.now in
    let below = c.loop-at-test.true in
    let lt : k + 1 < length ss = omega (arith, total, below) in
    let is = in_turn c.args.stages.now (k + 1) c.index-stages-at.result below c.index-stages-at.is ∙ c.in-Some.ensures in
    let costs = link_costs d ss k l n (selected_by (node_at d 0) (link_selector l) n) lt is refl in
    let paid = c.loop-at.invariant.paid in
    let p = err_from_is_err_and c.from_residual.result c.from_residual.ensures.1 in
    rw (p.1, p.2)
    (refuses_from 1 c.loop-at.meter.left (charge_from (node_at d 0) (after d ss c.args.number) (node_at d c.args.n.0 ∷ [])) c.args.meter.now.left c.in_err-spend.field-0.0 (λ short. omega (arith, short, costs, paid)) c.in_err-spend.ensures)

pub returns-in-None-clause-follows : goal.returns-in-None-clause-follows
returns-in-None-clause-follows c =
    let d = c.args.doc.now in
    let ss = segments_in c.args.stages.now in
    let k = c.loop-at.at in
    let n = node_at d c.loop-at.node.0 in
    let l = c.in-Some.link.now in
    let total = segment_total c.args.stages.now in
    let below = c.loop-at-test.true in
    let lt : k + 1 < length ss = omega (arith, total, below) in
    let is = in_turn c.args.stages.now (k + 1) c.index-stages-at.result below c.index-stages-at.is ∙ c.in-Some.ensures in
    let costs = link_costs d ss k l n [] lt is c.in-None.ensures.node in
    let paid = c.loop-at.invariant.paid in
    let spent = c.in_ok-spend.ensures in
    record {
      same = link_followed d ss k l n [] lt is c.in-None.ensures.node ∙ c.loop-at.invariant.same;
      paid = omega (arith, costs, paid, spent);
      inside = tt;
    }

pub loop-at-preserved : goal.loop-at-preserved
loop-at-preserved c =
    let d = c.args.doc.now in
    let ss = segments_in c.args.stages.now in
    let k = c.loop-at.at in
    let n = node_at d c.loop-at.node.0 in
    let l = c.in-Some.link.now in
    let found = node_at d c.in-Some-step.found.0 ∷ [] in
    let total = segment_total c.args.stages.now in
    let below = c.loop-at-test.true in
    let lt : k + 1 < length ss = omega (arith, total, below) in
    let is = in_turn c.args.stages.now (k + 1) c.index-stages-at.result below c.index-stages-at.is ∙ c.in-Some.ensures in
    let costs = link_costs d ss k l n found lt is c.in-Some-step.ensures.node in
    let paid = c.loop-at.invariant.paid in
    let spent = c.in_ok-spend.ensures in
    let enough = c.if-meter-least.false in
    let still = c.loop-at.invariant.still in
    record {
      number = below;
      inside = c.in-Some-step.ensures.inside;
      same = link_followed d ss k l n found lt is c.in-Some-step.ensures.node ∙ c.loop-at.invariant.same;
      paid = omega (arith, costs, paid, spent);
      little = λ h. omega (arith, enough, spent);
      still = λ h. (let same = still h in absurd (omega (arith, same, h, enough)));
    }
