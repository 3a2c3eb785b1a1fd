use Rattle.std.proofs.Common.{rules, sym, ◌∙◌, ◌++◌, ◌+◌, ◌-◌, ◌*◌, ◌<◌, ◌≡◌, [], ◌∷◌, arith, ap, refl, length, map, drop}
use Rattle.std.proofs.lemmas.Grind.{common_steps}
use Rattle.std.proofs.lemmas.List.{append-nil, drop_all}
use Rattle.std.specs.Prelude.{flat_map, codes}
use Rattle.std.specs.Prelude.{filter as keep}
use Rattle.std.proofs.lemmas.Result.{err_from_is_err_and}
use Rattle.json_tape.specs.Document.{node_at}
use Rattle.json_tape.specs.Nodes.{children, visit}
use Rattle.path_grammar.specs.Tree as tree
use Rattle.path_grammar.specs.Tree.{OneSegment, selectors_of, filter}
use Rattle.decisions.specs.Truth.{truth}
use Rattle.decisions.specs.Views.{test_view}
use Rattle.tape_values.specs.Functions.{length_value}
use Rattle.node_lists.specs.Evaluation.{evaluated, selected, selected_by, holds}
use Rattle.node_lists.specs.Nodelists.{nodes_of}
use Rattle.node_lists.specs.Charge.{total_of, charge_from, charge_expr}
use Rattle.node_lists.specs.Extra.{extra_in, nodes_from, charge_at, nodes_after, charge_after}
use Rattle.query_plan.specs.Planned.{look, as_argument, calling, claims_of, query_of, path_of, trees, condition_view, operand_view, selection_view, stage_view, With, condition_step, operand_step, selection_step, nested_step, stage_step}
use Rattle.node_lists.specs.Links.{links_view}
use Rattle.query_plan.specs.declared.plan.Condition.TheFolds.{fold_out-Operand, fold_out-Selection, the_lemmas}
use Rattle.tape_select.proofs.Filtering.{flat_more, sum_more, drawn, drawn_inside, adds_named, adds_wild, stage_claimed, evaluated_step, charge_step, adds_paid, more_of, staying, staying_charge, descending, descending_charge, filter_charge, keep_more, keep_not, leaf_holds, finds_linked, one_stage, finds_one, joined_more, paid_more, only_one, selections_more, extras_more, or_false, and_true, somes, alls}
use Rattle.tape_select.proofs.Found.{found_through, nothing_from_nothing, nothing_for_nothing}
use Rattle.tape_select.proofs.Parts.{stage_is, selection_claims, argued_charge, length_called}
use Rattle.tape_select.proofs.Paid.{refuses_from, free, paid, refused_first, refused_then, finds_some, finds_all}
use Rattle.tape_select.proofs.Telling.{kept, recalled, charged_nothing}
use Rattle.tape_select.proofs.evaluation.+evaluation.Goals as goal

pub all_selected-returns-in-len1-clause-found : goal.all_selected-returns-in-len1-clause-found
all_selected-returns-in-len1-clause-found t c =
    let d = c.args.doc.now in
    let one = one_stage c.args.stages.now c.stage-item.result c.in-len1.len_at_least c.in-len1.len_below c.stage-item.is in
    let got = rw c.from_ref.ensures.value at (c.after_stage.ensures).found in
    finds_one d c.after_stage.result (node_at d 0) (node_at d c.args.n.0) c.args.stages.now c.stage-item.result c.args.state.now.meter.left c.after_stage.new.state.meter.left one got

pub selected_in_turn-loop-stage-preserved : goal.selected_in_turn-loop-stage-preserved
selected_in_turn-loop-stage-preserved t c =
    let d = c.args.doc.now in
    let r = node_at d 0 in
    let ns = nodes_of d c.loop-stage.nodes.items in
    let k = stage_claimed (claims_of c.args.plan.now.stages.items) c.args.stages.now c.loop-stage.stage-index c.stage-item.result c.loop-stage-test.true c.stage-item.is c.loop-stage.invariant.claimed in
    let ev = evaluated_step r ns c.args.stages.now c.loop-stage.stage-index c.stage-item.result c.loop-stage-test.true c.stage-item.is in
    let ch = charge_step r ns c.args.stages.now c.loop-stage.stage-index c.stage-item.result c.loop-stage-test.true c.stage-item.is in
    let got = rw c.deref.ensures.value at (c.in_ok-nodes-2.ensures).found in
    let before = c.loop-stage.invariant.paid in
    let now_paid = got.1 in
    record {
      same = rw got.0.same (sym ev ∙ c.loop-stage.invariant.same);
      paid = rw got.0.same (omega (arith, ch, before, now_paid));
      claimed = k.1;
      kept = (c.in_ok-nodes-2.ensures).kept;
      sound = got.0.inside;
    }

pub selected_in_turn-returns-in_err-nodes-2-clause-found : goal.selected_in_turn-returns-in_err-nodes-2-clause-found
selected_in_turn-returns-in_err-nodes-2-clause-found t c =
    let d = c.args.doc.now in
    let r = node_at d 0 in
    let ns = nodes_of d c.loop-stage.nodes.items in
    let ch = charge_step r ns c.args.stages.now c.loop-stage.stage-index c.stage-item.result c.loop-stage-test.true c.stage-item.is in
    let got = rw c.deref.ensures.value at (c.in_err-nodes-2.ensures).found in
    let before = c.loop-stage.invariant.paid in
    let p = err_from_is_err_and c.from_residual-in_err-nodes-2.result c.from_residual-in_err-nodes-2.ensures.1 in
    rw (p.1, p.2)
    (refuses_from _ _ (charge_from r (query_of c.args.stages.now) (node_at d c.args.n.0 ∷ [])) c.args.state.now.meter.left c.in_err-nodes-2.field-0.0
    (λ h. omega (arith, ch, before, h)) got)

pub selected_in_turn-after_stage-requires : goal.selected_in_turn-after_stage-requires
selected_in_turn-after_stage-requires t c =
    let k = stage_claimed (claims_of c.args.plan.now.stages.items) c.args.stages.now c.loop-stage.stage-index c.stage-item.result c.loop-stage-test.true c.stage-item.is c.loop-stage.invariant.claimed in
    (search (rules, the_lemmas), (rw c.deref.ensures.value c.loop-stage.invariant.sound, (k.0, c.loop-stage.invariant.kept)))

pub selected_in_turn-returns-clause-found : goal.selected_in_turn-returns-clause-found
selected_in_turn-returns-clause-found t c =
    let none = drop_all c.loop-stage.stage-index c.args.stages.now (let n = c.loop-stage-test.false in omega arith) in
    let paid = rw none at c.loop-stage.invariant.paid in
    (record { same = rw none at c.loop-stage.invariant.same; inside = c.loop-stage.invariant.sound }, omega (arith, paid))

pub after_each-loop-n-preserved : goal.after_each-loop-n-preserved
after_each-loop-n-preserved t c =
    let d = c.args.doc.now in
    let r = node_at d 0 in
    let s = (stage_view c.args.stage.now).tree in
    let ids = c.args.input.now in
    let k = c.loop-n.n-index in
    let i = c.loop-n.invariant in
    let got = c.in_ok-from_node.ensures.added in
    record {
      same = joined_more (nodes_of d c.from_node.new.out.items) (nodes_of d c.loop-n.out.items) _ (nodes_after r s (nodes_of d (drop (k + 1) ids)))
          (nodes_after r s (nodes_of d (drop k ids))) (nodes_after r s (nodes_of d ids)) got.0.same (flat_more (nodes_from r s) d ids k _ c.loop-n-test.true) i.same;
      paid = paid_more c.from_node.new.state.meter.left c.loop-n.state.meter.left c.args.state.now.meter.left (charge_after r s (nodes_of d ids)) (charge_after r s (nodes_of d (drop k ids))) _
          (charge_after r s (nodes_of d (drop (k + 1) ids))) i.paid got.1 (sum_more (charge_at r s) d ids k _ c.loop-n-test.true);
      kept = c.in_ok-from_node.ensures.kept;
      sound = got.0.inside;
    }

pub after_each-returns-clause-found : goal.after_each-returns-clause-found
after_each-returns-clause-found t c =
    let none = drop_all c.loop-n.n-index c.args.input.now (let n = c.loop-n-test.false in omega arith) in
    let paid = rw none at c.loop-n.invariant.paid in
    (record { same = sym (append-nil (nodes_of c.args.doc.now c.loop-n.out.items)) ∙ rw none at c.loop-n.invariant.same; inside = c.loop-n.invariant.sound }, omega (arith, paid))

pub selected_from-loop-selection-preserved : goal.selected_from-loop-selection-preserved
selected_from-loop-selection-preserved t c =
    let d = c.args.doc.now in
    let r = node_at d 0 in
    let n = node_at d c.args.n.0 in
    let ss = c.args.selections.now in
    let k = c.loop-selection.selection-index in
    let item = c.selection-item.result in
    let lt = c.loop-selection-test.true in
    let i = c.loop-selection.invariant in
    let more = rw (← c.selection-item.is) at (selections_more r n ss k item lt) in
    let charged = rw (← c.selection-item.is) at (extras_more r n ss k item lt) in
    let got = c.in_ok-selected_by.ensures.added in
    let before = i.paid in
    let now_paid = got.1 in
    record {
      same = joined_more (nodes_of d c.selected_by.new.out.items) (nodes_of d c.loop-selection.out.items) (selected_by r (selection_view item).tree n) (selected r (selectors_of (trees (map selection_view (drop (k + 1) ss)))) n)
          (selected r (selectors_of (trees (map selection_view (drop k ss)))) n) (nodes_of d c.args.out.now.items ++ selected r (selectors_of (trees (map selection_view ss))) n) got.0.same more i.same;
      paid = omega (arith, charged, before, now_paid);
      claimed = (rw (← c.selection-item.is) at (rw (selection_claims ss k item lt) at i.claimed)).1;
      kept = c.in_ok-selected_by.ensures.kept;
      sound = got.0.inside;
    }

pub selected_from-returns-clause-added : goal.selected_from-returns-clause-added
selected_from-returns-clause-added t c =
    let none = drop_all c.loop-selection.selection-index c.args.selections.now (let n = c.loop-selection-test.false in omega arith) in
    let paid = rw none at c.loop-selection.invariant.paid in
    (record { same = sym (append-nil (nodes_of c.args.doc.now c.loop-selection.out.items)) ∙ rw none at c.loop-selection.invariant.same; inside = c.loop-selection.invariant.sound }, omega (arith, paid))

pub some_hold-returns-clause-found : goal.some_hold-returns-clause-found
some_hold-returns-clause-found t c =
    let none = drop_all c.loop-operand.operand-index c.args.operands.now (let n = c.loop-operand-test.false in omega arith) in
    let paid = rw none at c.loop-operand.invariant.paid in
    (sym (or_false c.loop-operand.some) ∙ rw none at c.loop-operand.invariant.same, omega (arith, paid))

pub all_hold-returns-clause-found : goal.all_hold-returns-clause-found
all_hold-returns-clause-found t c =
    let none = drop_all c.loop-operand.operand-index c.args.operands.now (let n = c.loop-operand-test.false in omega arith) in
    let paid = rw none at c.loop-operand.invariant.paid in
    (sym (and_true c.loop-operand.all) ∙ rw none at c.loop-operand.invariant.same, omega (arith, paid))

pub all_hold-loop-operand-preserved : goal.all_hold-loop-operand-preserved
all_hold-loop-operand-preserved t c = grind (arith, common_steps, alls)

pub some_hold-loop-operand-preserved : goal.some_hold-loop-operand-preserved
some_hold-loop-operand-preserved t c = grind (arith, common_steps, somes)

pub all_selected-after_stage-requires : goal.all_selected-after_stage-requires
all_selected-after_stage-requires t c =
    let one = one_stage c.args.stages.now c.stage-item.result c.in-len1.len_at_least c.in-len1.len_below c.stage-item.is in
    (search (rules, the_lemmas), (rw c.from_ref.ensures.value (only_one c.args.doc.now c.args.n c.requires.inside), ((rw one at c.requires.claimed).0, c.requires.kept)))

pub filtered-does_hold-requires : goal.filtered-does_hold-requires
filtered-does_hold-requires t c =
    let i = c.loop-child.invariant in
    (search (rules, the_lemmas), ((drawn_inside c.args.doc.now c.loop-child.child-iterator c.in-Some.child c.next.new.self c.in-Some.ensures.steps i.ahead).0, (c.requires.claimed, i.kept)))

pub filtered-push-requires-clause-inside : goal.filtered-push-requires-clause-inside
filtered-push-requires-clause-inside t c = (drawn_inside c.args.doc.now c.loop-child.child-iterator c.in-Some.child c.next.new.self c.in-Some.ensures.steps c.loop-child.invariant.ahead).0

pub from_node-visited-requires : goal.from_node-visited-requires
from_node-visited-requires t c =
    (search (rules, the_lemmas), (c.requires.inside, (rw c.deref.ensures.value (rw (stage_is c.args.stage.now) at c.requires.claimed), (c.requires.kept, c.requires.sound))))

pub from_node-selected_from-requires : goal.from_node-selected_from-requires
from_node-selected_from-requires t c =
    (search (rules, the_lemmas), (c.requires.inside, (rw c.deref-else-stage.ensures.value (rw (stage_is c.args.stage.now) at c.requires.claimed), (c.requires.kept, c.requires.sound))))

pub side_by_kind-returns-in_ok-side-in-Length-clause-found : goal.side_by_kind-returns-in_ok-side-in-Length-clause-found
unfolding Rattle.query_plan.specs.declared.plan.Condition.TheViews.out-Operand denote.Hole.Carrier.out
side_by_kind-returns-in_ok-side-in-Length-clause-found t c =
    let r = node_at c.args.doc.now 0 in
    let n = node_at c.args.doc.now c.args.child.0 in
    let v = (operand_view c.in-Length.operand.value).tree in
    let whole : (operand_view c.args.operand.now).tree ≡ calling (codes "length") (as_argument v) = ap (λ x. x.tree) (fold_out-Operand (With tree.Expr) (With tree.Comparable) (With tree.Selector) (With tree.Nested) (With OneSegment) condition_step operand_step selection_step nested_step stage_step c.args.operand.now) ∙ rw c.in-Length.is refl in
    let found = rw c.deref.ensures at c.in_ok-side-in-Length.ensures.found in
    let charged = argued_charge r n v in
    let spent = found.2 in
    rw whole (c.length_of.ensures.value ∙ ap length_value found.0 ∙ sym (length_called r n v), c.length_of.ensures.side, omega (arith, charged, spent))

pub selected_by-returns-in-Where-clause-added : goal.selected_by-returns-in-Where-clause-added
unfolding Rattle.query_plan.specs.declared.plan.Condition.TheViews.out-Selection denote.Hole.Carrier.out
selected_by-returns-in-Where-clause-added t c =
    let f = charge_expr (node_at c.args.doc.now 0) (condition_view c.in-Where.condition.value).tree in
    let same = filter_charge f (children (node_at c.args.doc.now c.args.n.0)) in
    let ran = rw (← same) at (rw c.deref.ensures at c.filtered.ensures.added) in
    let o = fold_out-Selection (With tree.Expr) (With tree.Comparable) (With tree.Selector) (With tree.Nested) (With OneSegment) condition_step operand_step selection_step nested_step stage_step c.args.selection.now in
    let e : (selection_view c.args.selection.now).tree ≡ filter (condition_view c.in-Where.condition.value).tree = ap (λ x. x.tree) o ∙ rw c.in-Where.is refl in
    rw e ran

pub from_node-returns-in_ok-spend-clause-added : goal.from_node-returns-in_ok-spend-clause-added
from_node-returns-in_ok-spend-clause-added t c =
    let d = c.args.doc.now in
    let r = node_at d 0 in
    let n = node_at d c.args.n.0 in
    let s = c.args.stage.now in
    let old = nodes_of d c.args.out.now.items in
    let ss = selectors_of (trees (map selection_view s.selections.items)) in
    let units = c.selector_total-selectors.ensures in
    let got = rw c.deref-else-stage.ensures.value at c.selected_from.ensures.added in
    adds_paid d c.selected_from.result c.selected_from.new.out.items (old ++ selected r ss n) (old ++ nodes_from r (stage_view s).tree n) (extra_in r ss n) (charge_at r (stage_view s).tree n)
    c.spend.new.self.left c.args.state.now.meter.left c.selected_from.new.state.meter.left (length s.selections.items) (rw (← units) c.in_ok-spend.ensures)
    (staying_charge c.selectors_pay_in_parts.ensures r n s c.if-stage.false) (more_of old (selected r ss n) (nodes_from r (stage_view s).tree n) (staying r n s c.if-stage.false)) got

pub from_node-returns-in_ok-spend_each-clause-added : goal.from_node-returns-in_ok-spend_each-clause-added
from_node-returns-in_ok-spend_each-clause-added t c =
    let d = c.args.doc.now in
    let r = node_at d 0 in
    let n = node_at d c.args.n.0 in
    let s = c.args.stage.now in
    let old = nodes_of d c.args.out.now.items in
    let ss = selectors_of (trees (map selection_view s.selections.items)) in
    let units = c.selector_total-selectors.ensures in
    let all = c.from.ensures ∙ c.visit_total.ensures in
    let got = rw c.deref.ensures.value at c.visited.ensures.added in
    adds_paid d c.visited.result c.visited.new.out.items (old ++ flat_map (selected r ss) (visit n)) (old ++ nodes_from r (stage_view s).tree n) (total_of (extra_in r ss) (visit n)) (charge_at r (stage_view s).tree n)
    c.spend_each.new.self.left c.args.state.now.meter.left c.visited.new.state.meter.left (length (visit n) * length s.selections.items) (rw (← units, ← all) c.in_ok-spend_each.ensures)
    (descending_charge c.selectors_pay_in_parts.ensures r n s c.if-stage.true) (more_of old (flat_map (selected r ss) (visit n)) (nodes_from r (stage_view s).tree n) (descending r n s c.if-stage.true)) got

pub from_node-returns-in_err-spend-clause-added : goal.from_node-returns-in_err-spend-clause-added
from_node-returns-in_err-spend-clause-added t c =
    let d = c.args.doc.now in
    let r = node_at d 0 in
    let n = node_at d c.args.n.0 in
    let s = c.args.stage.now in
    let units = c.selector_total-selectors.ensures in
    let charged = staying_charge c.selectors_pay_in_parts.ensures r n s c.if-stage.false in
    let p = err_from_is_err_and c.from_residual-in_err-spend.result c.from_residual-in_err-spend.ensures.1 in
    rw (p.1, p.2)
    (refuses_from c.selector_total-selectors.result c.args.state.now.meter.left (charge_at r (stage_view s).tree n) c.args.state.now.meter.left c.in_err-spend.field-0.0
    (λ h. omega (arith, charged, units, h)) c.in_err-spend.ensures)

pub from_node-returns-in_err-spend_each-clause-added : goal.from_node-returns-in_err-spend_each-clause-added
from_node-returns-in_err-spend_each-clause-added t c =
    let d = c.args.doc.now in
    let r = node_at d 0 in
    let n = node_at d c.args.n.0 in
    let s = c.args.stage.now in
    let units = c.selector_total-selectors.ensures in
    let all = c.from.ensures ∙ c.visit_total.ensures in
    let charged = rw (← units, ← all) at (descending_charge c.selectors_pay_in_parts.ensures r n s c.if-stage.true) in
    let p = err_from_is_err_and c.from_residual.result c.from_residual.ensures.1 in
    rw (p.1, p.2)
    (refuses_from (c.from.result * c.selector_total-selectors.result) c.args.state.now.meter.left (charge_at r (stage_view s).tree n) c.args.state.now.meter.left c.in_err-spend_each.field-0.0
    (λ h. omega (arith, charged, h)) c.in_err-spend_each.ensures)

pub selected_within-returns-in-None-clause-added : goal.selected_within-returns-in-None-clause-added
selected_within-returns-in-None-clause-added t c =
    let d = c.args.doc.now in
    let r = node_at d 0 in
    let n = node_at d c.args.n.0 in
    let ss = selectors_of (trees (map selection_view c.args.selections.now)) in
    let costs = c.selectors_pay_in_parts.ensures.free r ss n (sym c.in-None.ensures.nodes) in
    (leaf_holds c.selectors_pay_in_parts.ensures r ss d c.args.out.now.items n c.requires.sound c.in-None.ensures.nodes, omega (arith, costs))

pub filtered-loop-child-preserved-in-Continue-branch-3 : goal.filtered-loop-child-preserved-in-Continue-branch-3
filtered-loop-child-preserved-in-Continue-branch-3 t c =
    let d = c.args.doc.now in
    let i = c.loop-child.invariant in
    let out = nodes_of d c.loop-child.out.items in
    let x = (condition_view c.args.condition.now).tree in
    let p = holds (node_at d 0) x in
    let next = drawn d c.loop-child.child-iterator c.in-Some.child c.next.new.self c.in-Some.ensures.steps in
    let found = c.in_ok-does_hold.ensures.found in
    let charged = ap (total_of (charge_expr (node_at d 0) x)) next in
    let before = i.paid in
    let now_paid = found.1 in
    record {
      same = rw c.in_ok-push.ensures.same (keep_more p out (node_at d c.in-Some.child.0) (nodes_of d c.next.new.self) (sym found.0 ∙ c.if-branch.true) ∙ ap (λ ns. out ++ keep p ns) (sym next) ∙ i.same);
      paid = omega (arith, charged, before, now_paid);
      kept = c.in_ok-does_hold.ensures.kept;
      ahead = (drawn_inside d c.loop-child.child-iterator c.in-Some.child c.next.new.self c.in-Some.ensures.steps i.ahead).1;
      sound = c.in_ok-push.ensures.inside;
    }

pub filtered-loop-child-preserved : goal.filtered-loop-child-preserved
filtered-loop-child-preserved t c =
    let d = c.args.doc.now in
    let i = c.loop-child.invariant in
    let out = nodes_of d c.loop-child.out.items in
    let x = (condition_view c.args.condition.now).tree in
    let p = holds (node_at d 0) x in
    let next = drawn d c.loop-child.child-iterator c.in-Some.child c.next.new.self c.in-Some.ensures.steps in
    let found = c.in_ok-does_hold.ensures.found in
    let charged = ap (total_of (charge_expr (node_at d 0) x)) next in
    let before = i.paid in
    let now_paid = found.1 in
    record {
      same = ap (λ ns. out ++ ns) (sym (ap (keep p) next ∙ keep_not p (node_at d c.in-Some.child.0) (nodes_of d c.next.new.self) (sym found.0 ∙ c.if-branch.false))) ∙ i.same;
      paid = omega (arith, charged, before, now_paid);
      kept = c.in_ok-does_hold.ensures.kept;
      ahead = (drawn_inside d c.loop-child.child-iterator c.in-Some.child c.next.new.self c.in-Some.ensures.steps i.ahead).1;
      sound = i.sound;
    }

pub visited-returns-then-is_wild-clause-added : goal.visited-returns-then-is_wild-clause-added
visited-returns-then-is_wild-clause-added t c =
    let d = c.args.doc.now in
    adds_wild d c.children_below.result c.children_below.new.out.items (node_at d 0) (node_at d c.args.n.0) (nodes_of d c.args.out.now.items) (trees (map selection_view c.args.selections.now))
    c.args.state.now.meter.left c.children_below.new.meter.left (c.is_wild.ensures c.if-is_wild.true) c.children_below.ensures

pub visited-returns-in-Some-Key-clause-added : goal.visited-returns-in-Some-Key-clause-added
visited-returns-in-Some-Key-clause-added t c =
    let d = c.args.doc.now in
    adds_named d c.named.result c.named.new.out.items (node_at d 0) (node_at d c.args.n.0) (nodes_of d c.args.out.now.items) (trees (map selection_view c.args.selections.now)) c.in-Some-Key.name.scalars.items
    c.args.state.now.meter.left (rw c.in-Some-Key.field-0-is at c.in-Some-Key.ensures) c.named.ensures

pub after_stage-returns-in-Some-clause-found : goal.after_stage-returns-in-Some-clause-found
after_stage-returns-in-Some-clause-found t c =
    let d = c.args.doc.now in
    finds_linked d c.stepped.result (node_at d 0) (stage_view c.args.stage.now).tree c.in-Some.link.now c.args.input.now c.args.state.now.meter.left c.stepped.new.meter.left
    c.in-Some.ensures c.stepped.ensures

pub found_behind-returns-in_err-first-clause-found : goal.found_behind-returns-in_err-first-clause-found
found_behind-returns-in_err-first-clause-found t c =
    let r = node_at c.args.doc.now 0 in
    let n = node_at c.args.doc.now c.args.n.0 ∷ [] in
    let all = c.follows_links.ensures.paid r c.args.stages.now c.args.links.now (node_at c.args.doc.now c.args.n.0) (evaluated r (links_view c.args.links.now) n) refl in
    let p = err_from_is_err_and c.from_residual.result c.from_residual.ensures.1 in
    rw (p.1, p.2)
    (refuses_from (charge_from r (links_view c.args.links.now) n) c.args.state.now.meter.left (charge_from r (path_of c.args.links.now c.args.stages.now) n) c.args.state.now.meter.left c.in_err-first.field-0.0
    (λ h. omega (arith, all, h)) c.in_err-first.ensures)

pub found_behind-returns-in_default-clause-found : goal.found_behind-returns-in_default-clause-found
found_behind-returns-in_default-clause-found t c =
    let d = c.args.doc.now in
    let r = node_at d 0 in
    let got = rw c.in_default.is at c.in_ok-first.ensures in
    let all = c.follows_links.ensures.paid r c.args.stages.now c.args.links.now (node_at d c.args.n.0) [] got.0 in
    let free = nothing_for_nothing r (query_of c.args.stages.now) in
    let paid = got.2 in
    let left = c.found_in.ensures.charge in (
      found_through c.follows_links.ensures d c.args.links.now c.args.stages.now (node_at d c.args.n.0) [] [] c.found_in.result got.0 (sym (nothing_from_nothing r (query_of c.args.stages.now)))
          c.found_in.ensures.value c.found_in.ensures.inside c.found_in.ensures.total (omega (arith, all, free, paid, left)),
      omega (arith, all, free, paid),
    )

pub found_behind-returns-in_err-nodes-clause-found : goal.found_behind-returns-in_err-nodes-clause-found
found_behind-returns-in_err-nodes-clause-found t c =
    let d = c.args.doc.now in
    let r = node_at d 0 in
    let got = rw c.in-Some.is at c.in_ok-first.ensures in
    let all = c.follows_links.ensures.paid r c.args.stages.now c.args.links.now (node_at d c.args.n.0) (node_at d c.in-Some.first.0 ∷ []) got.0 in
    let paid = got.2 in
    let p = err_from_is_err_and c.from_residual-in_err-nodes.result c.from_residual-in_err-nodes.ensures.1 in
    rw (p.1, p.2)
    (refuses_from (charge_from r (query_of c.args.stages.now) (node_at d c.in-Some.first.0 ∷ [])) c.followed.new.meter.left (charge_from r (path_of c.args.links.now c.args.stages.now) (node_at d c.args.n.0 ∷ []))
    c.args.state.now.meter.left c.in_err-nodes.field-0.0 (λ h. omega (arith, all, paid, h)) (c.in_err-nodes.ensures).found)

pub found_behind-returns-clause-found : goal.found_behind-returns-clause-found
found_behind-returns-clause-found t c =
    let d = c.args.doc.now in
    let r = node_at d 0 in
    let got = rw c.in-Some.is at c.in_ok-first.ensures in
    let first = node_at d c.in-Some.first.0 ∷ [] in
    let all = c.follows_links.ensures.paid r c.args.stages.now c.args.links.now (node_at d c.args.n.0) first got.0 in
    let paid = got.2 in
    let found = rw (← c.deref.ensures.value) at (c.in_ok-nodes.ensures).found in
    let spent = found.1 in
    let left = c.found_in-2.ensures.charge in (
      found_through c.follows_links.ensures d c.args.links.now c.args.stages.now (node_at d c.args.n.0) first c.deref.result.now c.found_in-2.result got.0 found.0.same
          c.found_in-2.ensures.value c.found_in-2.ensures.inside c.found_in-2.ensures.total (omega (arith, all, paid, spent, left)),
      omega (arith, all, paid, spent),
    )

pub decided-returns-then-times-eq0-clause-found : goal.decided-returns-then-times-eq0-clause-found
decided-returns-then-times-eq0-clause-found t c =
    let d = c.args.doc.now in
    free c.means_conditions.ensures c.tells_as_compared.ensures (node_at d 0) (node_at d c.args.child.0) (operand_view c.args.operand.now).tree (test_view c.args.decision.now) c.related-relation.result c.related-relation.ensures.related c.args.state.now.meter.left c.decision_holds.result
    (sym c.uses-times.ensures ∙ c.if-times-eq0.true) c.decision_holds.ensures

pub decided-returns-in_err-side-clause-found : goal.decided-returns-in_err-side-clause-found
decided-returns-in_err-side-clause-found t c =
    let d = c.args.doc.now in
    let some : 0 < c.uses-times.result = (let n = c.if-times-eq0.false in omega arith) in
    let p = err_from_is_err_and c.from_residual.result c.from_residual.ensures.1 in
    rw (p.1, p.2)
    (refused_first c.means_conditions.ensures c.tells_as_compared.ensures (node_at d 0) (node_at d c.args.child.0) (operand_view c.args.operand.now).tree (test_view c.args.decision.now) c.args.state.now.meter.left c.uses-times.result c.in_err-side.field-0.0
    c.uses-times.ensures some (c.in_err-side.ensures).found)

pub decided-returns-in_err-spend_each-clause-found : goal.decided-returns-in_err-spend_each-clause-found
decided-returns-in_err-spend_each-clause-found t c =
    let d = c.args.doc.now in
    let old = c.args.state.now.meter.left in
    let left = c.side_of.new.state.meter.left in
    let some : 0 < c.uses-times.result = (let n = c.if-times-eq0.false in omega arith) in
    let parted = ((c.in_ok-side.ensures).found).2 in
    let p = err_from_is_err_and c.from_residual-in_err-spend_each.result c.from_residual-in_err-spend_each.ensures.1 in
    rw (p.1, p.2)
    (refused_then c.means_conditions.ensures c.tells_as_compared.ensures (node_at d 0) (node_at d c.args.child.0) (operand_view c.args.operand.now).tree (test_view c.args.decision.now) old left c.uses-times.result (old - left) c.in_err-spend_each.field-0.0
    c.uses-times.ensures some parted (omega arith) (rw c.from.ensures at c.in_err-spend_each.ensures))

pub decided-returns-clause-found : goal.decided-returns-clause-found
decided-returns-clause-found t c =
    let d = c.args.doc.now in
    let old = c.args.state.now.meter.left in
    let left = c.side_of.new.state.meter.left in
    let e = test_view c.args.decision.now in
    let some : 0 < c.uses-times.result = (let n = c.if-times-eq0.false in omega arith) in
    let found = (c.in_ok-side.ensures).found in
    let parted = found.2 in
    paid c.means_conditions.ensures c.tells_as_compared.ensures (node_at d 0) (node_at d c.args.child.0) (operand_view c.args.operand.now).tree e c.related-relation.result c.related-relation.ensures.related old left c.spend_each.new.self.left c.uses-times.result (old - left) c.decision_holds-2.result
    c.uses-times.ensures some parted (omega arith) (rw c.from.ensures at c.in_ok-spend_each.ensures) (c.decision_holds-2.ensures ∙ ap (λ v. truth v c.related-relation.result e) found.0)

pub joined_hold-returns-then-is_any-clause-found : goal.joined_hold-returns-then-is_any-clause-found
joined_hold-returns-then-is_any-clause-found t c =
    let d = c.args.doc.now in
    finds_some c.means_conditions.ensures (node_at d 0) (node_at d c.args.child.0) c.some_hold.result c.args.is_any c.args.numbers.now (trees (map condition_view c.args.parts.now)) c.args.state.now.meter.left c.some_hold.new.state.meter.left c.if-is_any.true c.some_hold.ensures.found

pub joined_hold-returns-clause-found : goal.joined_hold-returns-clause-found
joined_hold-returns-clause-found t c =
    let d = c.args.doc.now in
    finds_all c.means_conditions.ensures (node_at d 0) (node_at d c.args.child.0) c.all_hold.result c.args.is_any c.args.numbers.now (trees (map condition_view c.args.parts.now)) c.args.state.now.meter.left c.all_hold.new.state.meter.left c.if-is_any.false c.all_hold.ensures.found

pub remembered-returns-in-Some-known_truth-clause-found : goal.remembered-returns-in-Some-known_truth-clause-found
remembered-returns-in-Some-known_truth-clause-found t c =
    let d = c.args.doc.now in
    let e = (condition_view c.args.condition.now).tree in
    let n = node_at d c.args.child.0 in
    let nothing = charged_nothing (node_at d 0) n c.args.scale.now e c.requires.told in
    (sym (recalled d (look (claims_of c.args.plan.now.stages.items) c.args.slot) c.args.scale.now e n c.in-Some.cell c.in-Some-known_truth.held c.requires.mine (c.in-Some.ensures).cell c.in-Some-known_truth.ensures), omega (arith, nothing))

pub remembered-keep_truth-requires-clause-held : goal.remembered-keep_truth-requires-clause-held
remembered-keep_truth-requires-clause-held t c =
    let d = c.args.doc.now in
    kept c.tells_as_compared.ensures c.tells_by_marks.ensures d (look (claims_of c.args.plan.now.stages.items) c.args.slot) c.args.scale.now (condition_view c.args.condition.now).tree (node_at d c.args.child.0)
    c.in-Some.cell c.in_ok-held.held c.requires.mine c.requires.told (c.in-Some.ensures).cell (c.in_ok-held.ensures).found.0
