use Rattle.query_plan.proofs.Claims.{all_claimed}
use Rattle.query_plan.proofs.laws.finds_slots.Goals as goal

pub returns : goal.returns
returns c = all_claimed
