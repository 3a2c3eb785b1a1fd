use Rattle.std.proofs.Common.{arith}
use Rattle.std.proofs.lemmas.Int.{to_z-of_z}
use Rattle.tape_values.proofs.slices.selected_places.Goals as goal

pub returns-then-step-ge0-clause-places : goal.returns-then-step-ge0-clause-places
returns-then-step-ge0-clause-places c = λ i. let e = c.places_up.ensures.places i in grind (arith, to_z-of_z)

pub returns-else-step-ge0-clause-places : goal.returns-else-step-ge0-clause-places
returns-else-step-ge0-clause-places c = λ i. let e = c.places_down.ensures.places i in grind (arith, to_z-of_z)
