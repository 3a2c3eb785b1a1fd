use Rattle.std.proofs.Common.{ap, ◌∙◌}
use Rattle.lru.specs.LruCache.{lru_cache}
use Rattle.query_cache.proofs.Lists.{put_new}
use Rattle.query_cache.proofs.cache.keep_parsed.Goals as goal

pub returns-in-Ok-put : goal.returns-in-Ok-put
returns-in-Ok-put c = (c.in-Ok.key, c.in-Ok.ensures.items, c.in-Ok-put.ensures.entries ∙ ap (λ es. lru_cache es c.args.queries.now.cap) (put_new c.args.text.now c.in-Ok.key c.args.query c.args.queries.now c.in-Ok.ensures.items c.requires))
