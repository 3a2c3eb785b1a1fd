use Rattle.query_plan.proofs.Links.{links_charged_first, through_links}
use Rattle.query_plan.proofs.laws.follows_links.Goals as goal

pub returns : goal.returns
returns c = record { found = through_links; paid = links_charged_first }
