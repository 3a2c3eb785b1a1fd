use Rattle.std.proofs.Common.{rules, List, ◌++◌, ◌∙◌, ap, map, refl, arith}
use Rattle.std.proofs.lemmas.Grind.{common_steps}
use Rattle.path_grammar.specs.declared.ast.Expr.{Expr}
use Rattle.path_grammar.specs.declared.ast.Argument.TheFolds.{the_lemmas}
use Rattle.path_grammar.specs.Tree.{exprs_of}
use Rattle.path_grammar.specs.View.{segments_view, selectors_view, segment_view, selector_view, expr_view}
use Rattle.path_types.specs.Validity.{is_valid, are_valid, are_valid_exprs, is_valid_selector, is_valid_expr}
use Rattle.query_plan.specs.Planned.{trees, selection_view, stage_view, condition_view}
use Rattle.query_plan.proofs.Makings.{made_more, valid_more}
use Rattle.query_plan.proofs.Claims.{numbered_push}
use Rattle.query_plan.proofs.Joining.{parts_more, all_parts, group_passed, group_more, valid_behind}
use Rattle.query_plan.proofs.Calls.{not_one_call, one_call}
use Rattle.query_plan.proofs.making.+making.Goals as goal
use Rattle.query_plan.proofs.making.+making.Goals.{function-in_default-via-then-as_slice-lt1, function-in_default-via-else-as_slice-lt1+else-this-lt2}

pub function-unreachable-requires : goal.function-unreachable-requires
function-unreachable-requires t c = elim c.in_default.branch [
  | function-in_default-via-then-as_slice-lt1 w ↦ not_one_call c.args.call.now c.as_slice.result.now c.as_slice.ensures.value (search rules) c.requires.valid
  | function-in_default-via-else-as_slice-lt1+else-this-lt2 w ↦ not_one_call c.args.call.now c.as_slice.result.now c.as_slice.ensures.value (search rules) c.requires.valid
]

pub function-returns-clause-same : goal.function-returns-clause-same
function-returns-clause-same t c =
    let e = one_call c.args.call.now c.as_slice.result.now c.argument-item.result c.as_slice.ensures.value (search rules) (search rules) c.argument-item.is in
    rw e (rw c.deref.ensures.value at c.applied.ensures.same)

pub function-applied-requires : goal.function-applied-requires
function-applied-requires t c =
    let e = one_call c.args.call.now c.as_slice.result.now c.argument-item.result c.as_slice.ensures.value (search rules) (search rules) c.argument-item.is in
    (search (rules, the_lemmas), rw c.deref.ensures.value (rw e at c.requires.valid))

-- Rattle's own tries at these take seconds before one succeeds
pub selections-returns-clause-same : goal.selections-returns-clause-same
selections-returns-clause-same t c = grind (arith, common_steps)

pub stages-returns-clause-same : goal.stages-returns-clause-same
stages-returns-clause-same t c = grind (arith, common_steps)

pub conditions-returns-clause-same : goal.conditions-returns-clause-same
conditions-returns-clause-same t c = grind (arith, common_steps)

pub group-returns-clause-same : goal.group-returns-clause-same
group-returns-clause-same t c = grind (arith, common_steps)

pub selections-selection-requires : goal.selections-selection-requires
selections-selection-requires t c = (search (rules, the_lemmas), (valid_more (λ xs. are_valid (selectors_view xs)) (λ x. is_valid_selector (selector_view x)) c.args.selectors.now c.loop-selector.selector-index c.selector-item.result (λ x xs. refl) c.loop-selector-test.true c.selector-item.is c.loop-selector.invariant.valid).0)

pub stages-stage-requires : goal.stages-stage-requires
stages-stage-requires t c = (search (rules, the_lemmas), (valid_more (λ xs. is_valid (segments_view xs)) (λ x. are_valid (segment_view x).selectors) c.args.segments.now c.loop-i.i c.index-segments-i.result (λ x xs. refl) c.loop-i-test.true c.index-segments-i.is c.loop-i.invariant.valid).0)

pub conditions-condition-requires : goal.conditions-condition-requires
conditions-condition-requires t c = (search (rules, the_lemmas), (valid_more (λ xs. are_valid_exprs (exprs_of (map expr_view xs))) (λ x. is_valid_expr (expr_view x)) c.args.operands.now c.loop-operand.operand-index c.operand-item.result (λ x xs. refl) c.loop-operand-test.true c.operand-item.is c.loop-operand.invariant.valid).0)

pub group-condition-requires : goal.group-condition-requires
group-condition-requires t c = (search (rules, the_lemmas), (valid_more (λ xs. are_valid_exprs (exprs_of (map expr_view xs))) (λ x. is_valid_expr (expr_view x)) c.args.operands.now c.loop-i.i c.index-operands-i.result (λ x xs. refl) c.loop-i-test.true c.index-operands-i.is c.loop-i.invariant.valid).0)

pub selections-loop-selector-preserved : goal.selections-loop-selector-preserved
selections-loop-selector-preserved t c =
    let v = valid_more (λ xs. are_valid (selectors_view xs)) (λ x. is_valid_selector (selector_view x)) c.args.selectors.now c.loop-selector.selector-index c.selector-item.result (λ x xs. refl) c.loop-selector-test.true c.selector-item.is c.loop-selector.invariant.valid in
    record {
      same = rw c.in_ok-push.ensures.items (made_more selection_view selector_view c.loop-selector.made.items c.in_ok-one.one c.args.selectors.now c.loop-selector.selector-index c.selector-item.result c.loop-selector-test.true c.selector-item.is c.in_ok-one.ensures.same ∙ c.loop-selector.invariant.same);
      numbered = rw c.in_ok-push.ensures.items (numbered_push selection_view c.loop-selector.made.items c.in_ok-one.one c.args.next.now c.loop-selector.next c.selection.new.next c.loop-selector.invariant.numbered c.in_ok-one.ensures.numbered);
      valid = v.1;
    }

pub stages-loop-i-preserved : goal.stages-loop-i-preserved
stages-loop-i-preserved t c =
    let v = valid_more (λ xs. is_valid (segments_view xs)) (λ x. are_valid (segment_view x).selectors) c.args.segments.now c.loop-i.i c.index-segments-i.result (λ x xs. refl) c.loop-i-test.true c.index-segments-i.is c.loop-i.invariant.valid in
    record {
      same = rw c.in_ok-push.ensures.items (made_more stage_view segment_view c.loop-i.made.items c.in_ok-one.one c.args.segments.now c.loop-i.i c.index-segments-i.result c.loop-i-test.true c.index-segments-i.is c.in_ok-one.ensures.same ∙ c.loop-i.invariant.same);
      numbered = rw c.in_ok-push.ensures.items (numbered_push stage_view c.loop-i.made.items c.in_ok-one.one c.args.next.now c.loop-i.next c.stage.new.next c.loop-i.invariant.numbered c.in_ok-one.ensures.numbered);
      valid = v.1;
    }

pub conditions-loop-operand-preserved : goal.conditions-loop-operand-preserved
conditions-loop-operand-preserved t c =
    let v = valid_more (λ xs. are_valid_exprs (exprs_of (map expr_view xs))) (λ x. is_valid_expr (expr_view x)) c.args.operands.now c.loop-operand.operand-index c.operand-item.result (λ x xs. refl) c.loop-operand-test.true c.operand-item.is c.loop-operand.invariant.valid in
    record {
      same = rw c.in_ok-push.ensures.items (made_more condition_view expr_view c.loop-operand.made.items c.in_ok-one.one c.args.operands.now c.loop-operand.operand-index c.operand-item.result c.loop-operand-test.true c.operand-item.is c.in_ok-one.ensures.same ∙ c.loop-operand.invariant.same);
      numbered = rw c.in_ok-push.ensures.items (numbered_push condition_view c.loop-operand.made.items c.in_ok-one.one c.args.next.now c.loop-operand.next c.condition.new.next c.loop-operand.invariant.numbered c.in_ok-one.ensures.numbered);
      valid = v.1;
    }

pub parts-loop-number-preserved : goal.parts-loop-number-preserved
parts-loop-number-preserved t c = record {
  same = rw c.in_ok-push.ensures.items (parts_more c.args.is_any c.args.numbers.now c.args.operands.now c.loop-number.number c.loop-number.made.items c.in_ok-one.one c.loop-number.invariant.same c.in_ok-one.ensures.same);
  numbered = rw c.in_ok-push.ensures.items (numbered_push condition_view c.loop-number.made.items c.in_ok-one.one c.args.next.now c.loop-number.next c.group_part.new.next c.loop-number.invariant.numbered c.in_ok-one.ensures.numbered);
}

pub parts-returns-clause-same : goal.parts-returns-clause-same
parts-returns-clause-same t c =
    all_parts c.args.is_any c.args.numbers.now c.args.operands.now c.args.count c.loop-number.number c.loop-number.made.items c.loop-number-test.false (omega (arith, c.loop-number.auto.number-end)) c.requires.below c.requires.each c.loop-number.invariant.same

pub group-loop-i-preserved-then-numbers-i : goal.group-loop-i-preserved-then-numbers-i
group-loop-i-preserved-then-numbers-i t c =
    let each = c.requires.each in
    let inside = c.loop-i-test.true in
    let rest = group_passed c.args.numbers.now c.args.operands.now c.args.number c.loop-i.i (omega (arith, each, inside)) inside c.if-numbers-i.true in
    record {
      same = ap (λ (es : List Expr). trees (map condition_view c.loop-i.made.items) ++ map expr_view es) rest ∙ c.loop-i.invariant.same;
      numbered = c.loop-i.invariant.numbered;
      valid = valid_behind c.args.operands.now c.loop-i.i c.loop-i.invariant.valid;
    }

pub group-loop-i-preserved : goal.group-loop-i-preserved
group-loop-i-preserved t c =
    let each = c.requires.each in
    let inside = c.loop-i-test.true in
    record {
      same = rw c.in_ok-push.ensures.items (group_more c.loop-i.made.items c.in_ok-one.one c.args.numbers.now c.args.operands.now c.args.number c.loop-i.i c.index-operands-i.result (omega (arith, each, inside)) inside c.if-numbers-i.false
          c.index-operands-i.is c.in_ok-one.ensures.same ∙ c.loop-i.invariant.same);
      numbered = rw c.in_ok-push.ensures.items (numbered_push condition_view c.loop-i.made.items c.in_ok-one.one c.args.next.now c.loop-i.next c.condition.new.next c.loop-i.invariant.numbered c.in_ok-one.ensures.numbered);
      valid = valid_behind c.args.operands.now c.loop-i.i c.loop-i.invariant.valid;
    }
