use Rattle.json_text.proofs.Names.{sym, ap, ◌∙◌, arith, chars}
use Rattle.std.specs.Str.Iter.{chars_rest}
use Rattle.std.proofs.lemmas.Str.{IsUtf8-past_char, chars_past_char}
use Rattle.json_strings.specs.Reading.{left}
use Rattle.json_strings.proofs.Spelled.{nothing_left}
use Rattle.json_strings.proofs.scalars.ScalarsIterator.next.Goals as goal

pub invariant_of-self : goal.invariant_of-self
invariant_of-self c = IsUtf8-past_char (chars_rest c.loop-c.self-inside.rest) (chars_rest c.next.new.self) c.in-Some.c c.loop-c.invariant.utf8 c.in-Some.ensures.steps.0

pub returns-in-Scalar-clause-steps : goal.returns-in-Scalar-clause-steps
returns-in-Scalar-clause-steps c = grind (arith, chars_past_char, chars)

pub returns-in-Scalar-clause-goes : goal.returns-in-Scalar-clause-goes
returns-in-Scalar-clause-goes c = grind (arith, chars_past_char, chars)

pub loop-c-preserved : goal.loop-c-preserved
loop-c-preserved c =
    let e = chars_past_char (chars_rest c.loop-c.self-inside.rest) (chars_rest c.next.new.self) c.in-Some.c c.loop-c.invariant.utf8 c.in-Some.ensures.steps.0 in
    record {
      utf8 = IsUtf8-past_char (chars_rest c.loop-c.self-inside.rest) (chars_rest c.next.new.self) c.in-Some.c c.loop-c.invariant.utf8 c.in-Some.ensures.steps.0;
      high = c.in-More.ensures.1;
      left = sym (c.in-More.ensures.0 (chars (chars_rest c.next.new.self))) ∙ sym (ap (left c.loop-c.state) e) ∙ c.loop-c.invariant.left;
    }

pub returns-clause-steps : goal.returns-clause-steps
returns-clause-steps c = grind (arith, nothing_left, chars)
