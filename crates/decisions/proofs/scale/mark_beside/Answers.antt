use Rattle.std.proofs.Common.{◌≡◌, ◌+◌, [], ◌∷◌, Option, Some, map, sym, ◌∙◌}
use Rattle.path_meaning.specs.Comparison.{Value}
use Rattle.path_meaning.specs.Functions.{whole_number}
use Rattle.decisions.specs.Marks.{mark}
use Rattle.decisions.specs.Order.{value_cmp}
use Rattle.decisions.specs.Places.{place}
use Rattle.decisions.specs.Views.{constant_value}
use Rattle.decisions.proofs.Marks.{mark_with}
use Rattle.decisions.proofs.scale.mark_beside.Goals as goal

pub returns : goal.returns
returns g c =
    let vs = map constant_value c.args.literals.now in
    let v = g.S.ComparedSide.value c.args.side.now in
    let x : Option Value = Some (whole_number c.args.total) in
    let same : c.mark.result + c.total_place.result ≡ mark vs v + place value_cmp (x ∷ []) v = λ i. c.mark.ensures.value i + c.total_place.ensures.place i in
    same ∙ sym (mark_with x vs v)
