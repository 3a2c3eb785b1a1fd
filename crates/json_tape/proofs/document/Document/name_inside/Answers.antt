use Rattle.json_text.proofs.Names.{ap, ◌∙◌}
use Rattle.json_tape.specs.Document.{Doc}
use Rattle.json_strings.proofs.Spelled.{quoted_at}
use Rattle.json_tape.proofs.Readers.{member_role, member_lead}
use Rattle.json_tape.proofs.document.Document.name_inside.Goals as goal

pub unquoted-requires : goal.unquoted-requires
unquoted-requires c =
    let m = member_lead c.args.self.now c.entry.ensures.document c.args.n.0 c.requires.inside c.entry.result c.entry.ensures.value (member_role c.args.self.now c.entry.ensures.document c.args.n.0 c.requires.inside c.entry.result c.entry.ensures.value c.requires.named) in
    quoted_at c.args.self.now.text c.deref.result.now c.entry.result.label m.0.source m.0.characters (c.deref.ensures ∙ ap (λ (x : Doc). x.text) c.self.view_is) m.1 m.3 m.4
