use Rattle.json_text.proofs.Names.{ap, ◌∙◌}
use Rattle.json_tape.specs.Document.{Doc}
use Rattle.json_strings.proofs.Spelled.{quoted_at}
use Rattle.json_tape.proofs.Readers.{string_is}
use Rattle.json_tape.proofs.document.Document.string_scalars.Goals as goal

pub unquoted-requires : goal.unquoted-requires
unquoted-requires c =
    let m = string_is c.args.self.now c.entry.ensures.document c.args.n.0 c.requires.inside c.entry.result c.entry.ensures.value c.requires.string in
    quoted_at c.args.self.now.text c.deref.result.now c.entry.result.source m.0 m.1 (c.deref.ensures ∙ ap (λ (x : Doc). x.text) c.self.view_is) m.2 m.4 m.5
