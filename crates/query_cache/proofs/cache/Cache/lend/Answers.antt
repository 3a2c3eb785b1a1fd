use Rattle.std.proofs.Common.{sym, ap, ◌∙◌}
use Rattle.std.specs.Option.{option_copied}
use Rattle.query_cache.specs.Texts.{Held, is_held}
use Rattle.query_cache.proofs.Lists.{peeked, lent_valid}
use Rattle.query_cache.proofs.cache.Cache.lend.Goals as goal

pub unwrap-requires : goal.unwrap-requires
unwrap-requires c = peeked c.args.text.now c.self.inside.queries.entries c.peek.result c.peek.ensures (ap (λ (h : Held). is_held c.args.text.now h.texts) c.self.view_is ∙ c.requires)

pub returns : goal.returns
returns c = lent_valid c.args.text.now c.self.inside.queries.entries c.self.inside.queries.cap c.unwrap.result.now c.self.invariant (sym c.peek.ensures ∙ ap option_copied c.unwrap.ensures)
