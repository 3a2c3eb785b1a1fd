use Rattle.json_text.proofs.Names.{◌∙◌, ap}
use Rattle.json_tape.specs.Document.{Doc}
use Rattle.json_strings.proofs.Spelled.{quoted_at}
use Rattle.json_tape.proofs.Readers.{member_lead}
use Rattle.json_tape.proofs.document.Document.name_is.Goals as goal

pub is_meant_by-requires : goal.is_meant_by-requires
is_meant_by-requires c =
    let m = member_lead c.args.self.now c.entry-entry.ensures.document c.args.n.0 c.requires c.entry-entry.result c.entry-entry.ensures.value c.in-Member.is in
    quoted_at c.args.self.now.text c.deref.result.now c.entry-entry.result.label m.0.source m.0.characters (c.deref.ensures ∙ ap (λ (x : Doc). x.text) c.self.view_is) m.1 m.3 m.4
