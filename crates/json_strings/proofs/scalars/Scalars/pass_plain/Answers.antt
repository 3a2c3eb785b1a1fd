use Rattle.std.proofs.Common.{◌≡◌, ◌+◌, ◌-◌, ◌∙◌, length, take, drop, length-append, sym, ap, ap₂, arith}
use Rattle.std.specs.Str.{chars}
use Rattle.json_strings.specs.Spelling.{scalars_in}
use Rattle.json_strings.proofs.PlainNames.{plain_front}
use Rattle.json_strings.proofs.scalars.Scalars.pass_plain.Goals as goal

pub returns : goal.returns
returns c = let rest = c.as_str-rest.result.now in let run = c.plain_run-run.result in
    let is = c.plain_run-run.ensures in let whole : run - 0 ≡ run = omega arith in
    ap length (sym c.self.view_is) ∙ ap (λ l. length (scalars_in (chars l))) (sym c.as_str-rest.ensures)
    ∙ ap length (plain_front rest run c.as_str-rest.utf8 is.boundary is.plain) ∙ length-append (chars (take run rest)) (scalars_in (chars (drop run rest)))
    ∙ ap₂ (λ m n. m + n) (sym (c.character_count.ensures ∙ ap (λ l. length (chars l)) c.range.ensures.value ∙ ap (λ n. length (chars (take n rest))) whole))
    (ap (λ l. length (scalars_in (chars l))) (sym (c.chars-self-inside.ensures.rest ∙ c.range_from.ensures.value)))
