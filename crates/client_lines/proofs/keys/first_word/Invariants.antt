use Rattle.std.proofs.Common.{◌≡◌, length}
use Rattle.client_lines.specs.Keys.{words_in}
use Rattle.client_lines.proofs.keys.first_word.Given as goal

abbrev pub invariant-loop-byte : goal.invariant-loop-byte
invariant-loop-byte l = words_in l.rest ≡ words_in l.text

abbrev pub decreases-loop-byte : goal.decreases-loop-byte
decreases-loop-byte l = length l.rest
