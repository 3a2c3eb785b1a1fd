use Rattle.std.proofs.Common.{◌≡◌, ◌++◌, flat_map, string_bytes, encode_utf8}
use Rattle.json_tape.specs.Document.{node_at, string_meaning}
use Rattle.client_lines.proofs.naming.string_of.Given as goal

abbrev pub invariant-loop-letter : goal.invariant-loop-letter
invariant-loop-letter l = string_bytes l.string ++ flat_map encode_utf8 l.letter-iterator ≡ flat_map encode_utf8 (string_meaning (node_at l.document l.fn.node.0).tree)
