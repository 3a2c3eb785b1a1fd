use Rattle.json_text.proofs.Names.{◌≡◌, drop, chars}
use Rattle.json_strings.specs.Spelling.{scalars_in}
use Rattle.json_strings.specs.Hashes.{hash_from, hash_of}
use Rattle.json_strings.proofs.hashes.long_hash.Given as goal

abbrev pub invariant-loop-i : goal.invariant-loop-i
invariant-loop-i l = hash_from l.factor l.state (scalars_in (chars (drop l.i l.inside))) ≡ hash_of l.factor (scalars_in (chars l.inside))
