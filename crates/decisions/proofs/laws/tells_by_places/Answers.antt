use Rattle.decisions.specs.Order.{value_cmp}
use Rattle.decisions.proofs.Orders.{value_total}
use Rattle.decisions.proofs.Counts.{place_tells}
use Rattle.decisions.proofs.laws.tells_by_places.Goals as goal

pub returns : goal.returns
returns c =
    let total = value_total c.orders_values.ensures.numbers in
    record { order = total; values = λ vs v l tie. place_tells value_cmp total vs v l tie }
