use Rattle.json_text.proofs.Names.{◌≡◌, drop, nat_cmp, slice_cmp}
use Rattle.json_strings.proofs.sought.compare_meant.Given as goal

abbrev pub invariant-loop-c : goal.invariant-loop-c
invariant-loop-c l = slice_cmp nat_cmp l.scalars (drop l.c-index l.name) ≡ slice_cmp nat_cmp l.fn.scalars l.name
