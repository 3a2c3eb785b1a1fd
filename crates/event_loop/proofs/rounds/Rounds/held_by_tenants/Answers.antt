use Rattle.std.proofs.Common.{arith, ap, ◌∙◌}
use Rattle.std.proofs.lemmas.List.{length-set}
use Rattle.event_loop.specs.Gauging.{figure_of, usage_in}
use Rattle.event_loop.proofs.Gauging.{one_told}
use Rattle.event_loop.proofs.rounds.Rounds.held_by_tenants.Goals as goal

pub places-preserved : goal.places-preserved
places-preserved g c = record {
  lengths = (length-set _ _ _ ∙ c.places.invariant.lengths.0, length-set _ _ _ ∙ c.places.invariant.lengths.1, length-set _ _ _ ∙ c.places.invariant.lengths.2);
  collections = one_told (λ usage. usage.collections) (usage_in g.C.LoopCore.held c.args.self.now.keys.items c.args.self.now.opened.core) c.places.place _ c.places.collections (omega (arith, c.places.invariant.lengths.0, c.places-test.true)) (c.figures-in_collections.ensures.collections ∙ ap (figure_of (λ usage. usage.collections)) c.usage_at.ensures) c.places.invariant.collections;
  documents = one_told (λ usage. usage.documents) (usage_in g.C.LoopCore.held c.args.self.now.keys.items c.args.self.now.opened.core) c.places.place _ c.places.documents (omega (arith, c.places.invariant.lengths.1, c.places-test.true)) (c.figures-in_collections.ensures.documents ∙ ap (figure_of (λ usage. usage.documents)) c.usage_at.ensures) c.places.invariant.documents;
  texts = one_told (λ usage. usage.bytes) (usage_in g.C.LoopCore.held c.args.self.now.keys.items c.args.self.now.opened.core) c.places.place _ c.places.texts (omega (arith, c.places.invariant.lengths.2, c.places-test.true)) (c.figures-in_collections.ensures.texts ∙ ap (figure_of (λ usage. usage.bytes)) c.usage_at.ensures) c.places.invariant.texts;
}
