use Rattle.std.proofs.Common.{◌≡◌, ◌-◌, ◌++◌, ◌∷◌, [], map, length, sym, refl, arith}
use Rattle.std.proofs.lemmas.Result.{err_from_is_err_and}
use Rattle.std.proofs.lemmas.List.{map_push}
use Rattle.path_grammar.specs.Reading.{repeat_at}
use Rattle.path_grammar.specs.View.{selector_view, segment_view, expr_view, argument_view}
use Rattle.path_grammar.specs.ReadingSegments.{next_selector, selector_at, selectors_at, next_segment, segment_at, segments_at}
use Rattle.path_grammar.specs.ReadingFilters.{next_operand, next_argument, basic_at, and_at, argument_at, some_arguments_at, condition_in, arguments_in}
use Rattle.path_grammar.proofs.Repeat.{goes_on, fails, stops, is_done, front_nil, first_read, first_fails}
use Rattle.path_grammar.proofs.expressions.+expressions.Goals as goal

pub selectors-returns-in_err-first : goal.selectors-returns-in_err-first
unfolding selectors_at
selectors-returns-in_err-first t c =
    let p = err_from_is_err_and c.from_residual.result c.from_residual.ensures.1 in
    rw (p.1, p.2) (first_fails next_selector (selector_at (condition_in c.args.level)) c.args.text.now c.in_err-first.field-0.0 c.in_err-first.ensures)

pub selectors-loop-init : goal.selectors-loop-init
unfolding selectors_at
selectors-loop-init t c =
    let e : map selector_view c.append.new.list.items ≡ selector_view c.in_ok-first.first ∷ [] = rw (c.in_ok-append.ensures, c.new-out.ensures.items) refl in
    let z : length c.args.text.now - 0 ≡ length c.args.text.now = omega arith in
    rw (e, z) (first_read next_selector (selector_at (condition_in c.args.level)) c.args.text.now c.in_ok-first.after_first.now (selector_view c.in_ok-first.first) c.in_ok-first.ensures)

pub selectors-returns-in_default : goal.selectors-returns-in_default
selectors-returns-in_default t c = stops next_selector (selector_at (condition_in c.args.level)) (map selector_view c.loop.out.items) (length c.args.text.now) c.loop.counter c.loop.rest.now (selectors_at (condition_in c.args.level) c.args.text.now) c.loop.invariant c.loop-test.true (sym c.in_default.ensures)

pub selectors-returns-in_err-item : goal.selectors-returns-in_err-item
selectors-returns-in_err-item t c =
    let p = err_from_is_err_and c.from_residual-in_err-item.result c.from_residual-in_err-item.ensures.1 in
    rw (p.1, p.2) (fails next_selector (selector_at (condition_in c.args.level)) (map selector_view c.loop.out.items) (length c.args.text.now) c.loop.counter c.loop.rest.now (selectors_at (condition_in c.args.level) c.args.text.now) c.loop.invariant c.in_err-item.field-0.0 c.in-Some.next.now c.loop-test.true (sym c.in-Some.ensures) c.in_err-item.ensures)

pub selectors-loop-preserved : goal.selectors-loop-preserved
selectors-loop-preserved t c =
    let s = selector_view c.in_ok-item.item in
    let e : map selector_view c.append-in-loop.new.list.items ≡ map selector_view c.loop.out.items ++ s ∷ [] = rw c.in_ok-append-2.ensures (map_push _ c.loop.out.items c.in_ok-item.item) in
    rw e (goes_on next_selector (selector_at (condition_in c.args.level)) (map selector_view c.loop.out.items) (length c.args.text.now) c.loop.counter c.loop.rest.now (selectors_at (condition_in c.args.level) c.args.text.now) c.loop.invariant c.in-Some.next.now c.in_ok-item.after.now s c.loop-test.true (sym c.in-Some.ensures) c.in_ok-item.ensures)

pub selectors-returns : goal.selectors-returns
selectors-returns t c = is_done next_selector (selector_at (condition_in c.args.level)) (map selector_view c.loop.out.items) (length c.args.text.now) c.loop.counter c.loop.rest.now (selectors_at (condition_in c.args.level) c.args.text.now) c.loop.invariant c.loop-test.false

pub segments-loop-init : goal.segments-loop-init
unfolding segments_at
segments-loop-init t c =
    let z : length c.args.text.now - 0 ≡ length c.args.text.now = omega arith in
    rw (c.new-out.ensures.items, z) (front_nil (repeat_at next_segment (segment_at (condition_in c.args.level)) (length c.args.text.now) c.args.text.now))

pub segments-returns-in_default : goal.segments-returns-in_default
segments-returns-in_default t c = stops next_segment (segment_at (condition_in c.args.level)) (map segment_view c.loop.out.items) (length c.args.text.now) c.loop.counter c.loop.rest.now (segments_at (condition_in c.args.level) c.args.text.now) c.loop.invariant c.loop-test.true (sym c.in_default.ensures)

pub segments-returns-in_err-item : goal.segments-returns-in_err-item
segments-returns-in_err-item t c =
    let p = err_from_is_err_and c.from_residual.result c.from_residual.ensures.1 in
    rw (p.1, p.2) (fails next_segment (segment_at (condition_in c.args.level)) (map segment_view c.loop.out.items) (length c.args.text.now) c.loop.counter c.loop.rest.now (segments_at (condition_in c.args.level) c.args.text.now) c.loop.invariant c.in_err-item.field-0.0 c.in-Some.next.now c.loop-test.true (sym c.in-Some.ensures) c.in_err-item.ensures)

pub segments-loop-preserved : goal.segments-loop-preserved
segments-loop-preserved t c =
    let s = segment_view c.in_ok-item.item in
    let e : map segment_view c.append.new.list.items ≡ map segment_view c.loop.out.items ++ s ∷ [] = rw c.in_ok-append.ensures (map_push _ c.loop.out.items c.in_ok-item.item) in
    rw e (goes_on next_segment (segment_at (condition_in c.args.level)) (map segment_view c.loop.out.items) (length c.args.text.now) c.loop.counter c.loop.rest.now (segments_at (condition_in c.args.level) c.args.text.now) c.loop.invariant c.in-Some.next.now c.in_ok-item.after.now s c.loop-test.true (sym c.in-Some.ensures) c.in_ok-item.ensures)

pub segments-returns : goal.segments-returns
segments-returns t c = is_done next_segment (segment_at (condition_in c.args.level)) (map segment_view c.loop.out.items) (length c.args.text.now) c.loop.counter c.loop.rest.now (segments_at (condition_in c.args.level) c.args.text.now) c.loop.invariant c.loop-test.false

pub other_basics-loop-init : goal.other_basics-loop-init
other_basics-loop-init t c =
    let z : c.args.limit - 0 ≡ c.args.limit = omega arith in
    rw (c.new-others.ensures.items, z) (front_nil (repeat_at (next_operand 0x26) (basic_at (condition_in c.args.level) (arguments_in c.args.level)) c.args.limit c.args.text.now))

pub other_basics-returns-in_default : goal.other_basics-returns-in_default
other_basics-returns-in_default t c = stops (next_operand 0x26) (basic_at (condition_in c.args.level) (arguments_in c.args.level)) (map expr_view c.loop.others.items) c.args.limit c.loop.counter c.loop.rest.now (repeat_at (next_operand 0x26) (basic_at (condition_in c.args.level) (arguments_in c.args.level)) c.args.limit c.args.text.now) c.loop.invariant c.loop-test.true (sym c.in_default.ensures)

pub other_basics-returns-in_err-item : goal.other_basics-returns-in_err-item
other_basics-returns-in_err-item t c =
    let p = err_from_is_err_and c.from_residual.result c.from_residual.ensures.1 in
    rw (p.1, p.2) (fails (next_operand 0x26) (basic_at (condition_in c.args.level) (arguments_in c.args.level)) (map expr_view c.loop.others.items) c.args.limit c.loop.counter c.loop.rest.now (repeat_at (next_operand 0x26) (basic_at (condition_in c.args.level) (arguments_in c.args.level)) c.args.limit c.args.text.now) c.loop.invariant c.in_err-item.field-0.0 c.in-Some.next.now c.loop-test.true (sym c.in-Some.ensures) c.in_err-item.ensures)

pub other_basics-loop-preserved : goal.other_basics-loop-preserved
other_basics-loop-preserved t c =
    let s = expr_view c.in_ok-item.item in
    let e : map expr_view c.append.new.list.items ≡ map expr_view c.loop.others.items ++ s ∷ [] = rw c.in_ok-append.ensures (map_push _ c.loop.others.items c.in_ok-item.item) in
    rw e (goes_on (next_operand 0x26) (basic_at (condition_in c.args.level) (arguments_in c.args.level)) (map expr_view c.loop.others.items) c.args.limit c.loop.counter c.loop.rest.now (repeat_at (next_operand 0x26) (basic_at (condition_in c.args.level) (arguments_in c.args.level)) c.args.limit c.args.text.now) c.loop.invariant c.in-Some.next.now c.in_ok-item.after.now s c.loop-test.true (sym c.in-Some.ensures) c.in_ok-item.ensures)

pub other_basics-returns : goal.other_basics-returns
other_basics-returns t c = is_done (next_operand 0x26) (basic_at (condition_in c.args.level) (arguments_in c.args.level)) (map expr_view c.loop.others.items) c.args.limit c.loop.counter c.loop.rest.now (repeat_at (next_operand 0x26) (basic_at (condition_in c.args.level) (arguments_in c.args.level)) c.args.limit c.args.text.now) c.loop.invariant c.loop-test.false

pub other_and_exprs-loop-init : goal.other_and_exprs-loop-init
other_and_exprs-loop-init t c =
    let z : c.args.limit - 0 ≡ c.args.limit = omega arith in
    rw (c.new-others.ensures.items, z) (front_nil (repeat_at (next_operand 0x7C) (and_at (condition_in c.args.level) (arguments_in c.args.level)) c.args.limit c.args.text.now))

pub other_and_exprs-returns-in_default : goal.other_and_exprs-returns-in_default
other_and_exprs-returns-in_default t c = stops (next_operand 0x7C) (and_at (condition_in c.args.level) (arguments_in c.args.level)) (map expr_view c.loop.others.items) c.args.limit c.loop.counter c.loop.rest.now (repeat_at (next_operand 0x7C) (and_at (condition_in c.args.level) (arguments_in c.args.level)) c.args.limit c.args.text.now) c.loop.invariant c.loop-test.true (sym c.in_default.ensures)

pub other_and_exprs-returns-in_err-item : goal.other_and_exprs-returns-in_err-item
other_and_exprs-returns-in_err-item t c =
    let p = err_from_is_err_and c.from_residual.result c.from_residual.ensures.1 in
    rw (p.1, p.2) (fails (next_operand 0x7C) (and_at (condition_in c.args.level) (arguments_in c.args.level)) (map expr_view c.loop.others.items) c.args.limit c.loop.counter c.loop.rest.now (repeat_at (next_operand 0x7C) (and_at (condition_in c.args.level) (arguments_in c.args.level)) c.args.limit c.args.text.now) c.loop.invariant c.in_err-item.field-0.0 c.in-Some.next.now c.loop-test.true (sym c.in-Some.ensures) c.in_err-item.ensures)

pub other_and_exprs-loop-preserved : goal.other_and_exprs-loop-preserved
other_and_exprs-loop-preserved t c =
    let s = expr_view c.in_ok-item.item in
    let e : map expr_view c.append.new.list.items ≡ map expr_view c.loop.others.items ++ s ∷ [] = rw c.in_ok-append.ensures (map_push _ c.loop.others.items c.in_ok-item.item) in
    rw e (goes_on (next_operand 0x7C) (and_at (condition_in c.args.level) (arguments_in c.args.level)) (map expr_view c.loop.others.items) c.args.limit c.loop.counter c.loop.rest.now (repeat_at (next_operand 0x7C) (and_at (condition_in c.args.level) (arguments_in c.args.level)) c.args.limit c.args.text.now) c.loop.invariant c.in-Some.next.now c.in_ok-item.after.now s c.loop-test.true (sym c.in-Some.ensures) c.in_ok-item.ensures)

pub other_and_exprs-returns : goal.other_and_exprs-returns
other_and_exprs-returns t c = is_done (next_operand 0x7C) (and_at (condition_in c.args.level) (arguments_in c.args.level)) (map expr_view c.loop.others.items) c.args.limit c.loop.counter c.loop.rest.now (repeat_at (next_operand 0x7C) (and_at (condition_in c.args.level) (arguments_in c.args.level)) c.args.limit c.args.text.now) c.loop.invariant c.loop-test.false

pub some_arguments-returns-in_err-first : goal.some_arguments-returns-in_err-first
unfolding some_arguments_at
some_arguments-returns-in_err-first t c =
    let p = err_from_is_err_and c.from_residual.result c.from_residual.ensures.1 in
    rw (p.1, p.2) (first_fails next_argument (argument_at (condition_in c.args.level) (arguments_in c.args.level)) c.args.text.now c.in_err-first.field-0.0 c.in_err-first.ensures)

pub some_arguments-loop-init : goal.some_arguments-loop-init
unfolding some_arguments_at
some_arguments-loop-init t c =
    let e : map argument_view c.append.new.list.items ≡ argument_view c.in_ok-first.first ∷ [] = rw (c.in_ok-append.ensures, c.new-out.ensures.items) refl in
    let z : length c.args.text.now - 0 ≡ length c.args.text.now = omega arith in
    rw (e, z) (first_read next_argument (argument_at (condition_in c.args.level) (arguments_in c.args.level)) c.args.text.now c.in_ok-first.after_first.now (argument_view c.in_ok-first.first) c.in_ok-first.ensures)

pub some_arguments-returns-in_default : goal.some_arguments-returns-in_default
some_arguments-returns-in_default t c = stops next_argument (argument_at (condition_in c.args.level) (arguments_in c.args.level)) (map argument_view c.loop.out.items) (length c.args.text.now) c.loop.counter c.loop.rest.now (some_arguments_at (condition_in c.args.level) (arguments_in c.args.level) c.args.text.now) c.loop.invariant c.loop-test.true (sym c.in_default.ensures)

pub some_arguments-returns-in_err-item : goal.some_arguments-returns-in_err-item
some_arguments-returns-in_err-item t c =
    let p = err_from_is_err_and c.from_residual-in_err-item.result c.from_residual-in_err-item.ensures.1 in
    rw (p.1, p.2) (fails next_argument (argument_at (condition_in c.args.level) (arguments_in c.args.level)) (map argument_view c.loop.out.items) (length c.args.text.now) c.loop.counter c.loop.rest.now (some_arguments_at (condition_in c.args.level) (arguments_in c.args.level) c.args.text.now) c.loop.invariant c.in_err-item.field-0.0 c.in-Some.next.now c.loop-test.true (sym c.in-Some.ensures) c.in_err-item.ensures)

pub some_arguments-loop-preserved : goal.some_arguments-loop-preserved
some_arguments-loop-preserved t c =
    let s = argument_view c.in_ok-item.item in
    let e : map argument_view c.append-in-loop.new.list.items ≡ map argument_view c.loop.out.items ++ s ∷ [] = rw c.in_ok-append-2.ensures (map_push _ c.loop.out.items c.in_ok-item.item) in
    rw e (goes_on next_argument (argument_at (condition_in c.args.level) (arguments_in c.args.level)) (map argument_view c.loop.out.items) (length c.args.text.now) c.loop.counter c.loop.rest.now (some_arguments_at (condition_in c.args.level) (arguments_in c.args.level) c.args.text.now) c.loop.invariant c.in-Some.next.now c.in_ok-item.after.now s c.loop-test.true (sym c.in-Some.ensures) c.in_ok-item.ensures)

pub some_arguments-returns : goal.some_arguments-returns
some_arguments-returns t c = is_done next_argument (argument_at (condition_in c.args.level) (arguments_in c.args.level)) (map argument_view c.loop.out.items) (length c.args.text.now) c.loop.counter c.loop.rest.now (some_arguments_at (condition_in c.args.level) (arguments_in c.args.level) c.args.text.now) c.loop.invariant c.loop-test.false
