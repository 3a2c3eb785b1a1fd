use Rattle.std.proofs.Common.{refl, map}
use Rattle.decisions.specs.Views.{constant_view, constant_value}
use Rattle.decisions.proofs.Marks.{are_among_known}
use Rattle.decisions.proofs.Sorting.{known}
use Rattle.decisions.proofs.scale.Scale.new.Goals as goal

pub returns-clause-known : goal.returns-clause-known
returns-clause-known c =
    let xs = c.args.found.items in
    let ys = c.in_ok-literals.literals.items in
    are_among_known c.orders_values.ensures.numbers (map constant_value ys) (map constant_view xs) (known (map constant_view xs) xs ys refl c.in_ok-literals.ensures.kept)
