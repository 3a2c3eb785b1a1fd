use Rattle.json_text.proofs.Names.{◌≡◌, ◌++◌, encodes, chars}
use Rattle.std.specs.String.{string_bytes}
use Rattle.json_strings.specs.Spelling.{scalars_in}
use Rattle.json_strings.proofs.keys.meaning.Given as goal

abbrev pub invariant-loop-c : goal.invariant-loop-c
invariant-loop-c l = string_bytes l.name ++ encodes l.c-iterator ≡ encodes (scalars_in (chars l.inside))
