use Rattle.json_text.proofs.Names.{sym, ap, ◌∙◌, encodes, encodes-chars, false, ◌≡◌}
use Rattle.json_strings.specs.Spelling.{has_backslash}
use Rattle.json_strings.proofs.PlainNames.{plain_means}
use Rattle.text_places.specs.Marks.{number_from}
use Rattle.text_places.proofs.marks.number.Goals as goal

pub returns-else-contains : goal.returns-else-contains
returns-else-contains c = let plain : has_backslash c.args.inside.now ≡ false = ap has_backslash (sym c.as_bytes.ensures.value) ∙ sym c.contains.ensures.value ∙ c.if-contains.false in
    c.number_from.ensures ∙ ap (number_from 0) (c.as_bytes-else-contains.ensures.value ∙ sym (ap encodes (plain_means c.args.inside.now c.utf8.inside plain) ∙ encodes-chars c.args.inside.now c.utf8.inside))
