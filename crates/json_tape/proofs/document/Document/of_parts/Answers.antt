use Rattle.json_text.proofs.Names.{refl}
use Rattle.std.specs.String.{string_bytes}
use Rattle.json_tape.proofs.TreeBuilt.{is_accepted, document}
use Rattle.json_tape.proofs.document.Document.of_parts.Goals as goal

pub invariant_of-result : goal.invariant_of-result
invariant_of-result c = let r = c.requires in let text = string_bytes c.args.text in
    (document text text c.args.parts.tape refl r.0 r.1 r.3 r.2, r.4)

pub returns : goal.returns
returns c = let r = c.requires in let text = string_bytes c.args.text in (refl, is_accepted text text c.args.parts.tape refl r.0 r.1 r.3)
