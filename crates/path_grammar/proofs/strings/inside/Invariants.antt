use Rattle.std.proofs.Common.{◌≡◌, ◌-◌, length}
use Rattle.path_grammar.specs.Reading.{put_front}
use Rattle.path_grammar.specs.ReadingStrings.{inside_at}
use Rattle.path_grammar.proofs.strings.inside.Given as goal

abbrev pub invariant-loop : goal.invariant-loop
invariant-loop l = put_front l.out.items (inside_at l.quote l.other (length l.text - l.counter) l.rest) ≡ inside_at l.quote l.other (length l.text) l.text
