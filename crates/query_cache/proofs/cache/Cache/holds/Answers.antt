use Rattle.std.proofs.Common.{ap, ◌∙◌}
use Rattle.query_cache.specs.Texts.{Held, is_held}
use Rattle.query_cache.proofs.Lists.{held_entry}
use Rattle.query_cache.proofs.cache.Cache.holds.Goals as goal

pub returns : goal.returns
returns c = c.contains.ensures ∙ held_entry c.args.text.now c.self.inside.queries.entries ∙ ap (λ (h : Held). is_held c.args.text.now h.texts) c.self.view_is
