use Rattle.std.proofs.Common.{sym, subst}
use Rattle.json_tape.specs.Document.{StandsIn}
use Rattle.json_text.specs.Limits.{IsLimited}
use Rattle.json_tape.proofs.Readers.{text_is, text_ends, text_part, number_within, text_short, part_short}
use Rattle.json_tape.proofs.document.Document.text.Goals as goal

pub part_at-requires : goal.part_at-requires
part_at-requires c = text_ends c.args.self.now c.entry.ensures.document c.args.n.0 c.requires c.entry.result c.entry.ensures.value c.source.result.now c.source.ensures.value

pub returns-clause-value : goal.returns-clause-value
returns-clause-value c = text_is c.args.self.now c.entry.ensures.document c.args.n.0 c.requires c.entry.result c.entry.ensures.value c.source.result.now c.part_at.result.now c.source.ensures.value c.part_at.ensures

pub returns-clause-part : goal.returns-clause-part
returns-clause-part c =
    let v = text_is c.args.self.now c.entry.ensures.document c.args.n.0 c.requires c.entry.result c.entry.ensures.value c.source.result.now c.part_at.result.now c.source.ensures.value c.part_at.ensures in
    subst (StandsIn c.args.self.now.text) (sym v) (text_part c.args.self.now c.entry.ensures.document c.args.n.0 c.requires)

pub returns-clause-number : goal.returns-clause-number
returns-clause-number c = λ k.
    let v = text_is c.args.self.now c.entry.ensures.document c.args.n.0 c.requires c.entry.result c.entry.ensures.value c.source.result.now c.part_at.result.now c.source.ensures.value c.part_at.ensures in
    subst IsLimited (sym v) (number_within c.args.self.now c.entry.ensures.document c.args.n.0 c.requires k)

pub returns-clause-short : goal.returns-clause-short
returns-clause-short c =
    let v = text_is c.args.self.now c.entry.ensures.document c.args.n.0 c.requires c.entry.result c.entry.ensures.value c.source.result.now c.part_at.result.now c.source.ensures.value c.part_at.ensures in
    let p = text_part c.args.self.now c.entry.ensures.document c.args.n.0 c.requires in let b = text_short c.args.self.now c.entry.ensures.document in
    part_short c.args.self.now.text _ _ p v b
