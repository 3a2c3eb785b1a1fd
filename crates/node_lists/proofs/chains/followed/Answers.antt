use Rattle.std.proofs.Common.{rules, arith, refl, sym, ◌∙◌, ◌+◌, [], ◌∷◌, drop}
use Rattle.std.proofs.lemmas.Result.{err_from_is_err_and}
use Rattle.json_tape.specs.Document.{node_at}
use Rattle.node_lists.specs.Evaluation.{selected_by}
use Rattle.node_lists.specs.Charge.{charge_from}
use Rattle.node_lists.specs.Links.{link_selector, links_view}
use Rattle.node_lists.proofs.Following.{link_more, link_charged, link_end, link_free, nothing_from_nothing, nothing_for_nothing, refuses_from}
use Rattle.node_lists.proofs.chains.followed.Goals as goal

pub loop-link-preserved : goal.loop-link-preserved
loop-link-preserved c =
    let r = node_at c.args.doc.now 0 in
    let n = node_at c.args.doc.now c.loop-link.node.0 in
    let found = node_at c.args.doc.now c.in-Some.found.0 ∷ [] in
    let more = link_more r n found c.args.links.now c.loop-link.link-index c.link-item.result c.loop-link-test.true c.link-item.is c.in-Some.ensures.node in
    let charged = link_charged r n found c.args.links.now c.loop-link.link-index c.link-item.result c.loop-link-test.true c.link-item.is c.in-Some.ensures.node in
    let spent = c.in_ok-spend.ensures in
    let before = c.loop-link.invariant.paid in
    record {
      same = sym more ∙ c.loop-link.invariant.same;
      paid = omega (arith, charged, spent, before);
      inside = c.in-Some.ensures.inside;
    }

pub returns-in-None : goal.returns-in-None
returns-in-None c =
    let r = node_at c.args.doc.now 0 in
    let n = node_at c.args.doc.now c.loop-link.node.0 in
    let rest = links_view (drop (c.loop-link.link-index + 1) c.args.links.now) in
    let more = link_more r n [] c.args.links.now c.loop-link.link-index c.link-item.result c.loop-link-test.true c.link-item.is c.in-None.ensures.node in
    let charged = link_charged r n [] c.args.links.now c.loop-link.link-index c.link-item.result c.loop-link-test.true c.link-item.is c.in-None.ensures.node in
    let free = nothing_for_nothing r rest in
    let spent = c.in_ok-spend.ensures in
    let before = c.loop-link.invariant.paid in
    (sym (sym c.loop-link.invariant.same ∙ more ∙ nothing_from_nothing r rest), tt, omega (arith, charged, free, spent, before))

pub returns : goal.returns
returns c =
    let r = node_at c.args.doc.now 0 in
    let n = node_at c.args.doc.now c.loop-link.node.0 in
    let free = link_free r n c.args.links.now c.loop-link.link-index (search rules) in
    let before = c.loop-link.invariant.paid in
    (sym (link_end r n c.args.links.now c.loop-link.link-index (search rules)) ∙ c.loop-link.invariant.same, c.loop-link.invariant.inside, omega (arith, free, before))

pub returns-in_err-spend : goal.returns-in_err-spend
returns-in_err-spend c =
    let r = node_at c.args.doc.now 0 in
    let n = node_at c.args.doc.now c.loop-link.node.0 in
    let charged = link_charged r n (selected_by r (link_selector c.link-item.result) n) c.args.links.now c.loop-link.link-index c.link-item.result c.loop-link-test.true c.link-item.is refl in
    let before = c.loop-link.invariant.paid in
    let p = err_from_is_err_and c.from_residual.result c.from_residual.ensures.1 in
    rw (p.1, p.2)
    (refuses_from 1 c.loop-link.meter.left (charge_from r (links_view c.args.links.now) (node_at c.args.doc.now c.args.n.0 ∷ [])) c.args.meter.now.left c.in_err-spend.field-0.0
    (λ h. omega (arith, charged, before, h)) c.in_err-spend.ensures)
