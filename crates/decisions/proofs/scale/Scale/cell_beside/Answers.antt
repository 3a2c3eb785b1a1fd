use Rattle.std.proofs.Common.{◌∷◌, Option, Some, map, ap, ◌∙◌, arith}
use Rattle.std.proofs.lemmas.List.{length-map}
use Rattle.path_meaning.specs.Comparison.{Value}
use Rattle.path_meaning.specs.Functions.{whole_number}
use Rattle.decisions.specs.Marks.{mark}
use Rattle.decisions.specs.Views.{constant_value}
use Rattle.decisions.proofs.Marks.{cell_with}
use Rattle.decisions.proofs.scale.Scale.cell_beside.Goals as goal

pub returns : goal.returns
returns g c =
    let xs = c.args.self.now.literals.items in
    let x : Option Value = Some (whole_number c.args.total) in
    let v = g.S.ComparedSide.value c.args.first.now in
    let w = g.S.ComparedSide.value c.args.second.now in
    let long = length-map xs constant_value in
    cell_with x (map constant_value xs) v w _ _ _ c.joined.result
    (c.mark_beside-row.ensures ∙ ap (λ ys. mark (x ∷ map constant_value ys) v) c.deref.ensures.value)
    (c.mark_beside-column.ensures ∙ ap (λ ys. mark (x ∷ map constant_value ys) w) c.deref-2.ensures.value) (omega (arith, long)) c.joined.ensures
