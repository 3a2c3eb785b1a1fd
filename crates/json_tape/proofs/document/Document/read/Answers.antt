use Rattle.json_text.proofs.Names.{◌∙◌, subst, IsAccepted}
use Rattle.json_tape.specs.Document.{tree_of}
use Rattle.json_tape.specs.Shares.{IsKept}
use Rattle.json_tape.proofs.document.Document.read.Goals as goal

pub of_parts-requires : goal.of_parts-requires
of_parts-requires c = let parts = c.in-Ok-read_indexed.parts in subst (λ t. IsKept t parts.tape parts.names) c.as_str.ensures.value c.in-Ok-read_indexed.ensures

pub returns-in-Ok-read_indexed : goal.returns-in-Ok-read_indexed
returns-in-Ok-read_indexed c = let text = c.of_parts.ensures.0 ∙ c.in-Ok.ensures.0 in (text, subst (λ t. IsAccepted t (tree_of c.of_parts.result)) text c.of_parts.ensures.1)
