use Rattle.std.proofs.Common.{◌≡◌, true, length}
use Rattle.std.specs.Str.{chars, IsUtf8}
use Rattle.std.specs.Str.Iter.{chars_rest}
use Rattle.tape_values.specs.Settling.{settles, settles_from}
use Rattle.tape_values.proofs.settling.settles_in.Given as goal

abbrev pub invariant-loop-c : goal.invariant-loop-c
invariant-loop-c l = record {
  utf8 : IsUtf8 (chars_rest l.rest);
  left : settles_from l.reading (chars (chars_rest l.rest)) ≡ settles l.fn.mode true true (chars l.text);
}

abbrev pub decreases-loop-c : goal.decreases-loop-c
decreases-loop-c l = length (chars_rest l.rest)
