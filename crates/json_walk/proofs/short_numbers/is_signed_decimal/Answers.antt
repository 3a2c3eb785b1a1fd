use Rattle.std.proofs.Common.{refl, arith}
use Rattle.json_walk.proofs.Wholes.{whole_number, decimal_number, short_whole, short_decimal}
use Rattle.json_walk.proofs.short_numbers.is_signed_decimal.Goals as goal

pub returns-then-point-bytes-clause-number : goal.returns-then-point-bytes-clause-number
returns-then-point-bytes-clause-number c = λ _.
    let lead = c.if-not-has_no_leading_zero.ensures in
    whole_number c.args.bytes.now c.args.first c.digits_end-point.result c.requires.sign c.requires.minus (lead.some refl) c.if-point-bytes.true c.digits_end-point.ensures.digits (lead.lead refl)

pub returns-then-point-bytes-clause-limits : goal.returns-then-point-bytes-clause-limits
returns-then-point-bytes-clause-limits c = λ _.
    let sign = c.requires.sign in
    short_whole c.late_exponents_keep_limits.ensures c.args.bytes.now c.args.first c.digits_end-point.result sign c.requires.minus c.if-point-bytes.true c.digits_end-point.ensures.digits
    (c.digits_end-point.ensures.few (omega (arith, sign)))

pub returns-clause-number : goal.returns-clause-number
returns-clause-number c = λ t.
    let lead = c.if-not-has_no_leading_zero.ensures in let some = lead.some refl in
    decimal_number c.args.bytes.now c.args.first c.digits_end-point.result c.requires.sign c.requires.minus some (omega arith) c.digits_end-point.ensures.digits (lead.lead refl) (c.is_fraction.ensures.fraction t)

pub returns-clause-limits : goal.returns-clause-limits
returns-clause-limits c = λ t.
    let each = c.is_fraction.ensures in
    short_decimal c.late_exponents_keep_limits.ensures c.args.bytes.now c.args.first c.digits_end-point.result c.requires.sign c.requires.minus c.digits_end-point.ensures.digits (each.fraction t) (each.few t)
