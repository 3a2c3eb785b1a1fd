use Rattle.std.proofs.Common.{length, nat_lt, sym, ap, ◌∙◌}
use Rattle.tenant_map.specs.Maps.{Documents}
use Rattle.hub_core.proofs.Bounds.{length-texts}
use Rattle.hub_core.proofs.long.lists_long.Goals as goal

pub returns-in-Some : goal.returns-in-Some
returns-in-Some c = ap (nat_lt 500) (c.len.ensures.len ∙ sym (ap (λ (ds : Documents). length ds) c.in-Some.ensures.texts ∙ length-texts c.in-Some.documents.now.entries))
