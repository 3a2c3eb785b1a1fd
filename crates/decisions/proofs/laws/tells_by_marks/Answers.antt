use Rattle.std.proofs.lemmas.Cmp.{tied_itself}
use Rattle.decisions.proofs.Marks.{marked_kinds, marked_left, marked_right, marked_cells}
use Rattle.decisions.proofs.Orders.{value_total}
use Rattle.decisions.proofs.laws.tells_by_marks.Goals as goal

pub returns : goal.returns
returns c =
    let numbers = c.orders_values.ensures.numbers in
    let law = c.comparisons_are_told.ensures in
    record { itself = tied_itself (value_total numbers); kinds = marked_kinds numbers; left = marked_left numbers law; right = marked_right numbers law; cells = marked_cells }
