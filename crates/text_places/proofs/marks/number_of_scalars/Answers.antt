use Rattle.json_text.proofs.Names.{sym, ap, ◌∙◌, encodes}
use Rattle.std.specs.Prelude.{encode_utf8}
use Rattle.text_places.specs.Marks.{number_from}
use Rattle.text_places.proofs.Counted.{number_over}
use Rattle.text_places.proofs.marks.number_of_scalars.Goals as goal

pub loop-c-preserved : goal.loop-c-preserved
loop-c-preserved c = (
  tt,
  tt,
  ap (λ n. number_from n (encodes c.next.new.self)) (c.number_from-number.ensures ∙ ap (number_from c.loop-c.number) (c.as_bytes.ensures.value ∙ c.encode_utf8.ensures.value))
      ∙ sym (number_over c.loop-c.number (encode_utf8 c.in-Some.c) (encodes c.next.new.self)) ∙ ap (λ l. number_from c.loop-c.number (encodes l)) (sym c.in-Some.ensures.steps) ∙ c.loop-c.invariant.2,
)
