use Rattle.std.proofs.Common.{sym, ◌∙◌}
use Rattle.decimal_order.proofs.Readings.{read_is, no_number_by_frac, no_number_by_exp}
use Rattle.decimal_order.proofs.Texts.{no_number}
use Rattle.decimal_order.proofs.parts.split.Goals as goal

pub returns-in_err-frac : goal.returns-in_err-frac
returns-in_err-frac c =
    rw c.from_residual.ensures (no_number c.args.text.now (no_number_by_frac c.args.text.now _ _ _ c.split_minus-negative.ensures.rest c.split_digits.ensures.digits c.split_digits.ensures.rest (sym c.is_int.ensures ∙ c.if-not-is_int.false) c.in_err-frac.ensures))

pub returns-in_err-exponent_negative : goal.returns-in_err-exponent_negative
returns-in_err-exponent_negative c =
    rw c.from_residual-in_err-exponent_negative.ensures (no_number c.args.text.now (no_number_by_exp c.args.text.now _ _ _ _ _ c.split_minus-negative.ensures.rest c.split_digits.ensures.digits c.split_digits.ensures.rest (sym c.is_int.ensures ∙ c.if-not-is_int.false) c.in_ok-frac.ensures c.in_err-exponent_negative.ensures))

pub returns : goal.returns
returns c =
    read_is c.args.text.now _ _ _ _ _ _ _ _ c.split_minus-negative.ensures.minus c.split_minus-negative.ensures.rest c.split_digits.ensures.digits c.split_digits.ensures.rest (sym c.is_int.ensures ∙ c.if-not-is_int.false) c.in_ok-frac.ensures c.in_ok-exponent_negative.ensures
