use Rattle.json_text.proofs.Names.{◌≡◌, encodes}
use Rattle.text_places.specs.Marks.{number_from, number_of}
use Rattle.text_places.proofs.marks.number_of_scalars.Given as goal

abbrev pub invariant-loop-c : goal.invariant-loop-c
invariant-loop-c l =
    (goal.iterator-loop-c).can_next l.scalars × (goal.iterator-loop-c).is_finite l.scalars × (number_from l.number (encodes l.scalars) ≡ number_of l.initial.scalars)
