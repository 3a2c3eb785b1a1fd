use Rattle.request_replies.proofs.Keys.{map_of-with_same, map_of-with_other, map_of-fresh}
use Rattle.request_replies.proofs.laws.tenants_are_apart.Goals as goal

pub returns : goal.returns
returns c = record { own = map_of-with_same; others = map_of-with_other; first = map_of-fresh }
