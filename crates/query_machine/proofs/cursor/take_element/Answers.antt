use Rattle.std.proofs.Common.{[], None, Some, arith}
use Rattle.std.proofs.lemmas.Result.{err_from_is_err_and}
use Rattle.json_tape.specs.Document.{node_at, single}
use Rattle.json_tape.specs.Nodes.{elements}
use Rattle.query_plan.specs.Planned.{stage_view}
use Rattle.query_machine.proofs.Steps.{refuses_element, strides}
use Rattle.query_machine.proofs.Strides.{strided_more}
use Rattle.query_machine.proofs.cursor.take_element.Goals as goal

pub returns-in-None : goal.returns-in-None
returns-in-None c =
    let d = c.args.doc.now in
    let u = c.args.c.now in
    let r = c.requires in
    let at = rw (c.in-None.is, c.next_place-place.ensures) at c.element-found.ensures.node in
    let more = strided_more c.places_step_on.ensures u.stride [] (elements (node_at d u.visit)) r.stride r.some at in
    strides d (stage_view c.args.stage.now).tree u r.child r.some r.visit r.end r.stride None c.next_stride-next.result c.args.meter.now.left c.args.meter.now.left tt c.next_stride-next.ensures (rw c.next_stride-next.ensures more) (omega arith)

pub returns-in_err-spend-in-Some : goal.returns-in_err-spend-in-Some
returns-in_err-spend-in-Some c =
    let d = c.args.doc.now in
    let u = c.args.c.now in
    let r = c.requires in
    let at = rw (c.in-Some.is, c.next_place-place.ensures) at c.element-found.ensures.node in
    let more = strided_more c.places_step_on.ensures u.stride (single d (Some c.in-Some.n)) (elements (node_at d u.visit)) r.stride r.some at in
    let p = err_from_is_err_and c.from_residual.result c.from_residual.ensures.1 in
    rw (p.1, p.2)
    (refuses_element d (stage_view c.args.stage.now).tree u r.child r.some r.visit r.end r.stride c.in-Some.n c.next_stride-next.result c.args.meter.now.left c.in_err-spend-in-Some.field-0.0 (rw c.next_stride-next.ensures more) c.in_err-spend-in-Some.ensures)

pub returns-in_ok-spend-in-Some : goal.returns-in_ok-spend-in-Some
returns-in_ok-spend-in-Some c =
    let d = c.args.doc.now in
    let u = c.args.c.now in
    let r = c.requires in
    let at = rw (c.in-Some.is, c.next_place-place.ensures) at c.element-found.ensures.node in
    let more = strided_more c.places_step_on.ensures u.stride (single d (Some c.in-Some.n)) (elements (node_at d u.visit)) r.stride r.some at in
    strides d (stage_view c.args.stage.now).tree u r.child r.some r.visit r.end r.stride (Some c.in-Some.n) c.next_stride-next.result c.args.meter.now.left c.spend.new.self.left (rw c.in-Some.is at c.element-found.ensures.inside) c.next_stride-next.ensures
    (rw c.next_stride-next.ensures more) c.in_ok-spend-in-Some.ensures
