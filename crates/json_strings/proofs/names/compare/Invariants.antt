use Rattle.json_text.proofs.Names.{◌≡◌, nat_cmp, slice_cmp}
use Rattle.json_strings.proofs.names.compare.Given as goal

abbrev pub invariant-loop-a : goal.invariant-loop-a
invariant-loop-a l =
    (goal.iterator-loop-a).can_next l.left × (goal.iterator-loop-a).is_finite l.left × (slice_cmp nat_cmp l.left l.right ≡ slice_cmp nat_cmp l.initial.left l.initial.right)
