use Rattle.std.proofs.Common.{◌≡◌, ◌+◌, drop}
use Rattle.std.specs.List.{position_or_len}
use Rattle.client_lines.specs.Keys.{is_separator}
use Rattle.client_lines.proofs.keys.word_length.Given as goal

abbrev pub invariant-loop-byte : goal.invariant-loop-byte
invariant-loop-byte l = (l.count ≡ l.byte-index) × (l.count + position_or_len is_separator (drop l.byte-index l.text) ≡ position_or_len is_separator l.text)
