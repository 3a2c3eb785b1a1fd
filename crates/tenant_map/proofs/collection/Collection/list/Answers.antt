use Rattle.std.proofs.Common.{length, sym, ap, ◌∙◌, arith}
use Rattle.tenant_map.proofs.Seen.{length-seen}
use Rattle.tenant_map.proofs.collection.Collection.list.Goals as goal

pub append_listing-requires-clause-few : goal.append_listing-requires-clause-few
append_listing-requires-clause-few c =
    let h = sym (length-seen (λ k. k.items) (λ d. d.text) c.self.inside.documents.entries) ∙ ap length c.self.view_is in
    omega (arith, h, c.requires)
