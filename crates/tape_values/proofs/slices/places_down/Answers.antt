use Rattle.std.proofs.Common.{arith}
use Rattle.std.proofs.lemmas.Int.{ints}
use Rattle.tape_values.proofs.Progressions.{turned}
use Rattle.tape_values.proofs.slices.places_down.Goals as goal

pub returns-clause-places : goal.returns-clause-places
returns-clause-places c =
    λ i. rw c.saturating_sub.ensures (turned c.args.lower c.args.upper c.args.step _ _ _ i c.requires.step (omega (arith, ints)) (omega (arith, ints)) (omega (arith, ints)))
