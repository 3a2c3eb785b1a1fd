use Rattle.std.proofs.Common.{◌∙◌, ap, arith, w32}
use Rattle.std.specs.Int.{from_be_bytes}
use Rattle.decimal_order.proofs.WordLoads.{word_of_many, joined}
use Rattle.decimal_order.proofs.short.long_word.Goals as goal

pub returns : goal.returns
returns c =
    let first = c.in-Some-Some.ensures.cases in
    let last = c.in-Some-Some.ensures'.cases in
    let e = word_of_many c.args.text.now (λ i. (c.type_inv.text i).fits) c.requires.at_least c.requires.at_most in
    joined c.from-high.result c.from.result _ _ _ _ (omega arith) (c.from-high.ensures ∙ c.from_be_bytes.ensures ∙ ap (from_be_bytes w32) first.same) (c.from.ensures ∙ c.from_be_bytes-2.ensures ∙ ap (from_be_bytes w32) last.1.same) e
