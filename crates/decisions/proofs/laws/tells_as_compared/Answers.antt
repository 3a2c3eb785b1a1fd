use Rattle.decisions.proofs.Itself.{compared_itself}
use Rattle.decisions.proofs.Orders.{compared_left, compared_right, forth, back}
use Rattle.decisions.proofs.laws.tells_as_compared.Goals as goal

pub returns : goal.returns
returns c =
    let numbers = c.orders_values.ensures.numbers in
    let law = c.comparisons_are_told.ensures in
    record { left = compared_left numbers law; right = compared_right numbers law; itself = compared_itself numbers law; forth = forth law; back = back law }
