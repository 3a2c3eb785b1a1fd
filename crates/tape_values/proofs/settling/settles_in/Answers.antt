use Rattle.std.proofs.Common.{sym, ap, ◌∙◌}
use Rattle.std.specs.Str.{chars}
use Rattle.std.specs.Str.Iter.{chars_rest}
use Rattle.std.proofs.lemmas.Str.{IsUtf8-past_char, chars_past_char}
use Rattle.tape_values.specs.Settling.{settles_from}
use Rattle.tape_values.proofs.settling.settles_in.Goals as goal

pub loop-c-preserved : goal.loop-c-preserved
loop-c-preserved c =
    let e = chars_past_char (chars_rest c.loop-c.rest) (chars_rest c.next.new.self) c.in-Some.c c.loop-c.invariant.utf8 c.in-Some.ensures.steps.0 in
    record {
      utf8 = IsUtf8-past_char (chars_rest c.loop-c.rest) (chars_rest c.next.new.self) c.in-Some.c c.loop-c.invariant.utf8 c.in-Some.ensures.steps.0;
      left = c.after-reading.ensures (chars (chars_rest c.next.new.self)) ∙ sym (ap (settles_from c.loop-c.reading) e) ∙ c.loop-c.invariant.left;
    }
