use Rattle.std.proofs.Common.{sym, ap, ◌∙◌}
use Rattle.std.specs.Option.{option_map}
use Rattle.std.specs.Map.{lookup}
use Rattle.tenant_map.specs.Keyed.{at}
use Rattle.json_tape.specs.Document.{Doc}
use Rattle.tenant_map.proofs.Seen.{lookup-seen, copied-map}
use Rattle.tenant_map.proofs.Keeping.{short_lent}
use Rattle.tenant_map.proofs.collection.Collection.get.Goals as goal

pub returns-clause-value : goal.returns-clause-value
returns-clause-value c =
    copied-map (λ (d : Doc). d.text) c.get.result ∙ ap (option_map (λ d. d.text)) c.get.ensures.value
    ∙ sym (lookup-seen (λ k. k.items) (λ d. d.text) (at c.args.name.now) c.self.inside.documents.entries) ∙ ap (lookup (at c.args.name.now)) c.self.view_is

pub returns-clause-short : goal.returns-clause-short
returns-clause-short c = short_lent _ c.self.inside.documents.entries c.self.invariant c.get.result c.get.ensures.value
