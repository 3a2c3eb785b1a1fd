use Rattle.query_plan.proofs.Links.{one_link}
use Rattle.query_plan.proofs.units.units_of_links.Goals as goal

pub returns-in-len1 : goal.returns-in-len1
returns-in-len1 c = λ root n. one_link root n c.args.links.now c.in-len1.len_at_least c.in-len1.len_below
