use Rattle.std.proofs.Common.{◌≡◌, arith, ℤ, to_z, of_z, w64}
use Rattle.std.proofs.lemmas.Int.{to_z-of_z}
use Rattle.tape_values.specs.Selection.{step_of}
use Rattle.tape_values.proofs.Progressions.{sliced_is}
use Rattle.tape_values.proofs.slices.slice_places.Goals as goal

pub returns-clause-places : goal.returns-clause-places
returns-clause-places c = λ ns total_is.
    let passed = λ (z : ℤ). to_z w64 (of_z w64 z) in
    let p : passed c.step_or_one-step.result ≡ step_of c.args.step = grind (arith, to_z-of_z) in
    let e =
    sliced_is c.args.start c.args.stop c.args.step _ (passed c.bound_or-start.result) (passed c.bound_or-stop.result) (passed c.step_or_one-step.result) ns _
    (record { step_is = grind (arith, to_z-of_z); start_is = grind (arith, to_z-of_z); stop_is = grind (arith, to_z-of_z) })
    total_is c.selected_places.ensures.places in
    rw p at e
