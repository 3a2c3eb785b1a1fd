use Rattle.json_text.proofs.Names.{◌≡◌, length, IsUtf8, chars, IsHigh}
use Rattle.std.specs.Prelude.{IfSome}
use Rattle.std.specs.Str.Iter.{chars_rest}
use Rattle.json_strings.specs.Reading.{left}
use Rattle.json_strings.proofs.scalars.ScalarsIterator.next.Given as goal

abbrev pub invariant-loop-c : goal.invariant-loop-c
invariant-loop-c l = record {
  utf8 : IsUtf8 (chars_rest l.self-inside.rest);
  high : IfSome l.state.high IsHigh;
  left : left l.state (chars (chars_rest l.self-inside.rest)) ≡ l.fn.self;
}

abbrev pub decreases-loop-c : goal.decreases-loop-c
decreases-loop-c l = length (chars_rest l.self-inside.rest)
