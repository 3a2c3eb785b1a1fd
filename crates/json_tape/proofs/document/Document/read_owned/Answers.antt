use Rattle.json_text.proofs.Names.{◌∙◌, ap, sym, subst, IsAccepted}
use Rattle.structural_index.specs.Answer.{IsIndexOf}
use Rattle.json_tape.specs.Document.{tree_of}
use Rattle.json_tape.specs.Shares.{IsKept}
use Rattle.json_tape.proofs.document.Document.read_owned.Goals as goal

pub read_indexed-requires-clause-index : goal.read_indexed-requires-clause-index
read_indexed-requires-clause-index c = let found = c.in-Ok-index.ensures in subst (IsIndexOf c.in-Ok-index.index) (sym c.in-Ok.ensures.0) (record { places_are = found.places; unclosed_is = found.unclosed; control_is = found.control_inside; wrong_is = found.wrong_escape; lone_is = found.lone_surrogate })

pub of_parts-requires : goal.of_parts-requires
of_parts-requires c = let whole = ap (λ v. v.items) c.from_utf8_unchecked.ensures.value in let same = c.in-Ok.ensures.0 ∙ c.as_slice-bytes.ensures.value in let parts = c.in-Ok-read_indexed.parts in
    subst (λ t. IsKept t parts.tape parts.names) (sym (whole ∙ sym same)) c.in-Ok-read_indexed.ensures

pub returns-in-Ok-read_indexed : goal.returns-in-Ok-read_indexed
returns-in-Ok-read_indexed c = let text = c.of_parts.ensures.0 ∙ ap (λ v. v.items) c.from_utf8_unchecked.ensures.value in
    (text, subst (λ t. IsAccepted t (tree_of c.of_parts.result)) text c.of_parts.ensures.1)
