use Rattle.std.specs.Prelude.{◌≡◌, length}
use Rattle.event_loop.specs.Gauging.{TellsOf, usage_in}
use Rattle.event_loop.proofs.rounds.Rounds.held_by_tenants.Given as goal

-- those of the places so far are told
abbrev pub invariant-places : goal.invariant-places
invariant-places g l = record {
  lengths : (length l.collections ≡ 256) × (length l.documents ≡ 256) × (length l.texts ≡ 256);
  collections : TellsOf (λ usage. usage.collections) (usage_in g.C.LoopCore.held l.self.keys.items l.self.opened.core) l.place l.collections;
  documents : TellsOf (λ usage. usage.documents) (usage_in g.C.LoopCore.held l.self.keys.items l.self.opened.core) l.place l.documents;
  texts : TellsOf (λ usage. usage.bytes) (usage_in g.C.LoopCore.held l.self.keys.items l.self.opened.core) l.place l.texts;
}
