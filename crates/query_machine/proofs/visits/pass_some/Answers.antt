use Rattle.std.proofs.Common.{arith}
use Rattle.query_machine.proofs.Leaves.{passes_all, passes_found}
use Rattle.query_machine.proofs.visits.pass_some.Goals as goal
use Rattle.query_machine.proofs.visits.pass_some.Goals.{in-None, in-Some}

pub returns-clause-runs : goal.returns-clause-runs
returns-clause-runs c =
    let d = c.args.doc.now in
    let s = c.args.stage.now in
    let u = c.args.c.now in
    let r = c.requires in
    let e = c.next_found-k.ensures in
    let k = c.next_found-k.result.0 in
    let most = c.visits_within-to.ensures.most in
    let behind = e.most in
    let total = c.selector_total-selectors.ensures in
    let paid = rw (c.from.ensures, total) at c.in_ok-spend_each.ensures in
    elim c.match-found.branch [
      | in-None w ↦ rw (w.in-None.is, w.next-is) (passes_all d s u r.child r.passed r.fresh r.end r.stride k c.args.meter.now.left c.spend_each.new.self.left e.least (omega (arith, behind, most)) e.passed (rw w.next-is at paid), tt)
      | in-Some w ↦
          let node = rw w.in-Some.is at e.node in
          let within = node.0 in
          rw (w.in-Some.is, w.next-is)
          (passes_found d s u r.child r.passed r.fresh r.end r.stride k w.in-Some.field-0 c.args.meter.now.left c.spend_each.new.self.left e.least (omega (arith, within, most)) e.passed node.1 (rw w.next-is at paid), rw w.in-Some.is at e.inside)
    ]
