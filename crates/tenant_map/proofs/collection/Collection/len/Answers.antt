use Rattle.std.proofs.Common.{sym, ap, ◌∙◌, length}
use Rattle.tenant_map.proofs.Seen.{length-seen}
use Rattle.tenant_map.proofs.collection.Collection.len.Goals as goal

pub returns : goal.returns
returns c = c.len.ensures.len ∙ sym (length-seen (λ k. k.items) (λ d. d.text) c.self.inside.documents.entries) ∙ ap length c.self.view_is
