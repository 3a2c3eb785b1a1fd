use Rattle.std.proofs.Common.{◌<◌, arith}
use Rattle.json_tape.specs.Document.{node_at}
use Rattle.decisions.specs.Tree.{expr_of}
use Rattle.decisions.specs.Views.{test_view}
use Rattle.node_lists.specs.Charge.{charge_side, charge_expr}
use Rattle.query_plan.specs.Planned.{claims_of, operand_view}
use Rattle.tape_select.proofs.Awaits.{awaits_behind, side_within}
use Rattle.tape_select.proofs.awaiting.of_decided.Goals as goal

pub returns : goal.returns
returns c =
    let d = c.args.doc.now in
    let root = node_at d 0 in
    let n = node_at d c.args.child.0 in
    let side = (operand_view c.args.operand.now).tree in
    let t = test_view c.args.decision.now in
    let some : 0 < c.uses.result = (let k = c.if-uses-eq0.false in omega arith) in
    let part = side_within c.means_conditions.ensures root n side t c.uses.result c.uses.ensures some in
    awaits_behind d (claims_of c.args.plan.now.stages.items) n c.of_side.result.query 0 c.of_side.result.paid c.of_side.result.paid (charge_side root side n) (charge_expr root (expr_of side t) n)
    (omega (arith, part)) (omega arith) c.of_side.ensures
