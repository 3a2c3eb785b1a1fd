use Rattle.std.proofs.Common.{◌≡◌, ap, decimal, sym, ◌∙◌}
use Rattle.path_server.proofs.Splits.{decimal_is_text, ok_is, parses, tells_apart}
use Rattle.path_server.proofs.script.read_number.Goals as goal

pub returns-in_default-clause-none : goal.returns-in_default-clause-none
returns-in_default-clause-none c number small same = c.in_default.ensures.cases.0 (decimal_is_text c.args.digits.now number small same)

pub returns-in_default-parse-clause-none : goal.returns-in_default-parse-clause-none
returns-in_default-parse-clause-none c number small same =
    c.in_default-parse.not-Ok number (parses number c.in-Ok.text.now c.parse.result small (c.in-Ok.ensures.cases.0 ∙ same) c.parse.ensures.value.0)

pub returns-else-eq-clause-none : goal.returns-else-eq-clause-none
returns-else-eq-clause-none c number small same =
    let read = parses number c.in-Ok.text.now c.parse.result small (c.in-Ok.ensures.cases.0 ∙ same) c.parse.ensures.value.0 in
    let one : c.in-Ok-parse.number ≡ number = ok_is c.in-Ok-parse.number number c.parse.result c.in-Ok-parse.is read in
    let bytes = c.as_bytes.ensures.value ∙ c.format.ensures.text ∙ ap decimal one ∙ sym same in
    tells_apart c.as_bytes.result.now c.args.digits.now bytes (sym c.eq.ensures ∙ c.if-eq.false)
