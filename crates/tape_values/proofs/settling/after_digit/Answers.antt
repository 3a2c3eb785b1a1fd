use Rattle.std.proofs.Common.{◌<◌, ◌-◌, ap, ◌∙◌, arith}
use Rattle.json_text.specs.declared.modes.Mode.TheVariants.{Hex}
use Rattle.tape_values.specs.Settling.{settles}
use Rattle.tape_values.proofs.Settled.{hex_next}
use Rattle.tape_values.proofs.settling.after_digit.Goals as goal

pub returns : goal.returns
returns c = λ cs.
    let some : 0 < c.args.left = grind (arith, c.if-left-eq0.false) in
    ap (λ b. settles (Hex (c.args.left - 1)) c.args.is_high b cs) c.told_by_digit.ensures ∙ hex_next c.args.left c.args.is_high c.args.may c.args.c cs some
