use Rattle.json_text.proofs.Names.{◌≡◌, ◌+◌, ◌-◌, ◌*◌, ◌/◌, length}
use Rattle.json_strings.specs.Hashes.{words_from}
use Rattle.json_strings.proofs.hashes.with_middle.Given as goal

abbrev pub invariant-loop-i : goal.invariant-loop-i
invariant-loop-i l = words_from ((length l.bytes - 9) / 8 - l.i) l.bytes (8 * l.i + 8) l.hash ≡ words_from ((length l.bytes - 9) / 8) l.bytes 8 l.word
