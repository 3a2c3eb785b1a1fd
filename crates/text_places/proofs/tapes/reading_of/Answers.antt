use Rattle.json_text.proofs.Names.{◌∙◌, ap, sym, subst, Err, IsNoJson}
use Rattle.structural_index.specs.Answer.{IsIndexOf}
use Rattle.text_places.proofs.tapes.reading_of.Goals as goal

pub walk-requires-clause-index : goal.walk-requires-clause-index
walk-requires-clause-index c = let found = c.in_ok-index.ensures in let same = ap (λ (p : _). p.0) c.new.ensures in
    subst (IsIndexOf c.in_ok-index.index) (sym same) (record { places_are = found.places; unclosed_is = found.unclosed; control_is = found.control_inside; wrong_is = found.wrong_escape; lone_is = found.lone_surrogate })

pub returns-in-Err-NotJson : goal.returns-in-Err-NotJson
returns-in-Err-NotJson c = let same = ap (λ (p : _). p.0) c.new.ensures ∙ c.as_bytes-bytes.ensures.value in
    subst IsNoJson same (c.in-Err-NotJson.ensures.refused (ap Err c.in-Err-NotJson.field-0-is))
