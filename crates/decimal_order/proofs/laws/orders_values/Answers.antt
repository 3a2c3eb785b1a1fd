use Rattle.decimal_order.proofs.TotalOrder as total_order
use Rattle.decimal_order.proofs.laws.orders_values.Goals as goal

pub returns : goal.returns
returns c = total_order.orders_values
