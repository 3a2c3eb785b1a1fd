use Rattle.json_text.proofs.Names.{◌≡◌, drop, bytes_eq, chars}
use Rattle.json_strings.specs.Spelling.{scalars_in}
use Rattle.json_strings.proofs.plain.spells_plainly.Given as goal

abbrev pub invariant-loop-i : goal.invariant-loop-i
invariant-loop-i l = bytes_eq (drop l.i l.name) (scalars_in (chars (drop l.i l.inside))) ≡ bytes_eq l.name (scalars_in (chars l.inside))
