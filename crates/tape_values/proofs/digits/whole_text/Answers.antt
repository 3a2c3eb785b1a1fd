use Rattle.std.proofs.Common.{◌<◌, ◌^◌, ◌∙◌, sym, subst, arith}
use Rattle.tape_values.specs.Contents.{IsNumberText}
use Rattle.tape_values.proofs.digits.whole_text.Goals as goal

pub returns : goal.returns
returns c =
    let small : c.args.n < 2 ^ 64 = omega arith in
    let text = c.as_bytes.ensures.value ∙ c.format.ensures.text in
    let law = c.writes_whole_numbers.ensures c.args.n small in
    record { text = text; number = subst IsNumberText (sym text) (record { number = law.0; within = law.1 }) }
