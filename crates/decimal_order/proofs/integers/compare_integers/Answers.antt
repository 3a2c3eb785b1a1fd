use Rattle.std.proofs.Common.{◌<◌, ◌⊎◌, inl, inr, sym, ap, ◌∙◌}
use mathlib.Core.Bool.{not}
use Rattle.decimal_order.specs.Value.{digits_value}
use Rattle.decimal_order.proofs.Signs.{same_sign, other_sign, positive_when}
use Rattle.decimal_order.proofs.WholeNumbers.{plain_parts, positive_order, negative_order, zeros_order, below_order, above_order}
use Rattle.decimal_order.proofs.integers.compare_integers.Goals as goal
use Rattle.decimal_order.proofs.integers.compare_integers.Goals.{else-is_zero-via-then-is_zero+else-is_zero-2, else-is_zero-via-else-is_zero}

pub compare_ints-requires-clause-x_int : goal.compare_ints-requires-clause-x_int
compare_ints-requires-clause-x_int c = (plain_parts c.args.b.now _ c.requires.b_number c.split_minus-b_negative.ensures.rest (c.are_digits-else-not-are_digits.ensures.0 c.if-not-are_digits-2.false)).is_int

pub compare_ints-requires-clause-y_int : goal.compare_ints-requires-clause-y_int
compare_ints-requires-clause-y_int c = (plain_parts c.args.a.now _ c.requires.a_number c.split_minus-a_negative.ensures.rest (c.are_digits.ensures.0 c.if-not-are_digits.false)).is_int

pub compare_ints-requires-else-a_negative-clause-x_int : goal.compare_ints-requires-else-a_negative-clause-x_int
compare_ints-requires-else-a_negative-clause-x_int c = (plain_parts c.args.a.now _ c.requires.a_number c.split_minus-a_negative.ensures.rest (c.are_digits.ensures.0 c.if-not-are_digits.false)).is_int

pub compare_ints-requires-else-a_negative-clause-y_int : goal.compare_ints-requires-else-a_negative-clause-y_int
compare_ints-requires-else-a_negative-clause-y_int c = (plain_parts c.args.b.now _ c.requires.b_number c.split_minus-b_negative.ensures.rest (c.are_digits-else-not-are_digits.ensures.0 c.if-not-are_digits-2.false)).is_int

pub is_zero-requires : goal.is_zero-requires
is_zero-requires c = (plain_parts c.args.a.now _ c.requires.a_number c.split_minus-a_negative.ensures.rest (c.are_digits.ensures.0 c.if-not-are_digits.false)).is_int

pub is_zero-requires-then-is_zero : goal.is_zero-requires-then-is_zero
is_zero-requires-then-is_zero c = (plain_parts c.args.b.now _ c.requires.b_number c.split_minus-b_negative.ensures.rest (c.are_digits-else-not-are_digits.ensures.0 c.if-not-are_digits-2.false)).is_int

pub returns-then-a_negative : goal.returns-then-a_negative
returns-then-a_negative c =
    let s = same_sign _ _ c.if-a_negative-b_negative.true in
    negative_order c.args.a.now c.args.b.now _ _ c.requires.a_number c.requires.b_number c.split_minus-a_negative.ensures.rest c.split_minus-b_negative.ensures.rest (c.are_digits.ensures.0 c.if-not-are_digits.false) (c.are_digits-else-not-are_digits.ensures.0 c.if-not-are_digits-2.false)
    c.compare_ints.result (sym c.split_minus-a_negative.ensures.minus ∙ c.if-a_negative.true) (sym c.split_minus-b_negative.ensures.minus ∙ sym s ∙ c.if-a_negative.true) c.compare_ints.ensures

pub returns-else-a_negative : goal.returns-else-a_negative
returns-else-a_negative c =
    let s = same_sign _ _ c.if-a_negative-b_negative.true in
    positive_order c.args.a.now c.args.b.now _ _ c.requires.a_number c.requires.b_number c.split_minus-a_negative.ensures.rest c.split_minus-b_negative.ensures.rest (c.are_digits.ensures.0 c.if-not-are_digits.false) (c.are_digits-else-not-are_digits.ensures.0 c.if-not-are_digits-2.false)
    _ (sym c.split_minus-a_negative.ensures.minus ∙ c.if-a_negative.false) (sym c.split_minus-b_negative.ensures.minus ∙ sym s ∙ c.if-a_negative.false) c.compare_ints-else-a_negative.ensures

pub returns-then-is_zero-2 : goal.returns-then-is_zero-2
returns-then-is_zero-2 c =
    zeros_order c.args.a.now c.args.b.now _ _ c.requires.a_number c.requires.b_number c.split_minus-a_negative.ensures.rest c.split_minus-b_negative.ensures.rest (c.are_digits.ensures.0 c.if-not-are_digits.false) (c.are_digits-else-not-are_digits.ensures.0 c.if-not-are_digits-2.false)
    (c.is_zero.ensures.0 c.if-is_zero.true) (c.is_zero-then-is_zero.ensures.0 c.if-is_zero-2.true)

pub returns-then-a_negative-2 : goal.returns-then-a_negative-2
returns-then-a_negative-2 c =
    let s = other_sign _ _ c.if-a_negative-b_negative.false in
    let z : (0 < digits_value c.split_minus-a_negative.result.1.now) ⊎ (0 < digits_value c.split_minus-b_negative.result.1.now) =
    elim c.else-is_zero.branch [ else-is_zero-via-then-is_zero+else-is_zero-2 w ↦ inr (positive_when _ _ w.is_zero-then-is_zero.ensures w.if-is_zero-2.false) | else-is_zero-via-else-is_zero w ↦ inl (positive_when _ _ c.is_zero.ensures w.if-is_zero.false) ] in
    below_order c.args.a.now c.args.b.now _ _ c.requires.a_number c.requires.b_number c.split_minus-a_negative.ensures.rest c.split_minus-b_negative.ensures.rest (c.are_digits.ensures.0 c.if-not-are_digits.false) (c.are_digits-else-not-are_digits.ensures.0 c.if-not-are_digits-2.false)
    (sym c.split_minus-a_negative.ensures.minus ∙ c.if-a_negative-2.true) (sym c.split_minus-b_negative.ensures.minus ∙ s ∙ ap not c.if-a_negative-2.true) z

pub returns-else-a_negative-2 : goal.returns-else-a_negative-2
returns-else-a_negative-2 c =
    let s = other_sign _ _ c.if-a_negative-b_negative.false in
    let z : (0 < digits_value c.split_minus-a_negative.result.1.now) ⊎ (0 < digits_value c.split_minus-b_negative.result.1.now) =
    elim c.else-is_zero.branch [ else-is_zero-via-then-is_zero+else-is_zero-2 w ↦ inr (positive_when _ _ w.is_zero-then-is_zero.ensures w.if-is_zero-2.false) | else-is_zero-via-else-is_zero w ↦ inl (positive_when _ _ c.is_zero.ensures w.if-is_zero.false) ] in
    above_order c.args.a.now c.args.b.now _ _ c.requires.a_number c.requires.b_number c.split_minus-a_negative.ensures.rest c.split_minus-b_negative.ensures.rest (c.are_digits.ensures.0 c.if-not-are_digits.false) (c.are_digits-else-not-are_digits.ensures.0 c.if-not-are_digits-2.false)
    (sym c.split_minus-a_negative.ensures.minus ∙ c.if-a_negative-2.false) (sym c.split_minus-b_negative.ensures.minus ∙ s ∙ ap not c.if-a_negative-2.false) z
