use Rattle.std.proofs.Common.{◌≡◌, length}
use Rattle.std.specs.Cmp.Lexicographic.{slice_cmp}
use Rattle.std.specs.Ordering.{nat_cmp}
use Rattle.tape_values.specs.Contents.{letters_left}
use Rattle.tape_values.proofs.letters.compare_letters.Given as goal

abbrev pub invariant-loop-c : goal.invariant-loop-c
invariant-loop-c l = slice_cmp nat_cmp (letters_left l.a) (letters_left l.b) ≡ slice_cmp nat_cmp (letters_left l.fn.a) (letters_left l.fn.b)

abbrev pub decreases-loop-c : goal.decreases-loop-c
decreases-loop-c l = length (letters_left l.a)
