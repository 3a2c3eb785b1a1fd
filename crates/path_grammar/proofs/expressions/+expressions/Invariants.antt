use Rattle.std.proofs.Common.{◌≡◌, ◌+◌, ◌-◌, ◌*◌, length, map}
use Rattle.path_grammar.specs.Reading.{put_front, repeat_at}
use Rattle.path_grammar.specs.View.{selector_view, segment_view, expr_view, argument_view}
use Rattle.path_grammar.specs.ReadingSegments.{next_selector, selector_at, selectors_at, next_segment, segment_at, segments_at}
use Rattle.path_grammar.specs.ReadingFilters.{next_operand, next_argument, basic_at, and_at, argument_at, some_arguments_at, condition_in, arguments_in}
use Rattle.path_grammar.proofs.expressions.+expressions.Given as goal

-- the level, and within a level who calls whom
abbrev pub decreases-some_arguments : goal.decreases-some_arguments
decreases-some_arguments l = 30 * l.level + 19

abbrev pub decreases-argument : goal.decreases-argument
decreases-argument l = 30 * l.level + 18

abbrev pub decreases-expression_argument : goal.decreases-expression_argument
decreases-expression_argument l = 30 * l.level + 17

abbrev pub decreases-or_expr : goal.decreases-or_expr
decreases-or_expr l = 30 * l.level + 16

abbrev pub decreases-other_and_exprs : goal.decreases-other_and_exprs
decreases-other_and_exprs l = 30 * l.level + 15

abbrev pub decreases-and_expr : goal.decreases-and_expr
decreases-and_expr l = 30 * l.level + 14

abbrev pub decreases-other_basics : goal.decreases-other_basics
decreases-other_basics l = 30 * l.level + 13

abbrev pub decreases-basic : goal.decreases-basic
decreases-basic l = 30 * l.level + 12

abbrev pub decreases-negatable : goal.decreases-negatable
decreases-negatable l = 30 * l.level + 11

abbrev pub decreases-compared : goal.decreases-compared
decreases-compared l = 30 * l.level + 11

abbrev pub decreases-side : goal.decreases-side
decreases-side l = 30 * l.level + 10

abbrev pub decreases-sub_query : goal.decreases-sub_query
decreases-sub_query l = 30 * l.level + 9

abbrev pub decreases-segments : goal.decreases-segments
decreases-segments l = 30 * l.level + 8

abbrev pub decreases-segment : goal.decreases-segment
decreases-segment l = 30 * l.level + 7

abbrev pub decreases-selectors : goal.decreases-selectors
decreases-selectors l = 30 * l.level + 4

abbrev pub decreases-selector : goal.decreases-selector
decreases-selector l = 30 * l.level + 3

abbrev pub decreases-parentheses : goal.decreases-parentheses
decreases-parentheses l = 30 * l.level + 1

abbrev pub decreases-condition : goal.decreases-condition
decreases-condition l = 30 * l.level + 0

abbrev pub decreases-arguments : goal.decreases-arguments
decreases-arguments l = 30 * l.level + 0

abbrev pub invariant-selectors-loop : goal.invariant-selectors-loop
invariant-selectors-loop l = put_front (map selector_view l.out.items) (repeat_at next_selector (selector_at (condition_in l.level)) (length l.text - l.counter) l.rest) ≡ selectors_at (condition_in l.level) l.text

abbrev pub invariant-segments-loop : goal.invariant-segments-loop
invariant-segments-loop l = put_front (map segment_view l.out.items) (repeat_at next_segment (segment_at (condition_in l.level)) (length l.text - l.counter) l.rest) ≡ segments_at (condition_in l.level) l.text

abbrev pub invariant-other_basics-loop : goal.invariant-other_basics-loop
invariant-other_basics-loop l = put_front (map expr_view l.others.items) (repeat_at (next_operand 0x26) (basic_at (condition_in l.level) (arguments_in l.level)) (l.limit - l.counter) l.rest) ≡ repeat_at (next_operand 0x26) (basic_at (condition_in l.level) (arguments_in l.level)) l.limit l.text

abbrev pub invariant-other_and_exprs-loop : goal.invariant-other_and_exprs-loop
invariant-other_and_exprs-loop l = put_front (map expr_view l.others.items) (repeat_at (next_operand 0x7C) (and_at (condition_in l.level) (arguments_in l.level)) (l.limit - l.counter) l.rest) ≡ repeat_at (next_operand 0x7C) (and_at (condition_in l.level) (arguments_in l.level)) l.limit l.text

abbrev pub invariant-some_arguments-loop : goal.invariant-some_arguments-loop
invariant-some_arguments-loop l = put_front (map argument_view l.out.items) (repeat_at next_argument (argument_at (condition_in l.level) (arguments_in l.level)) (length l.text - l.counter) l.rest) ≡ some_arguments_at (condition_in l.level) (arguments_in l.level) l.text
