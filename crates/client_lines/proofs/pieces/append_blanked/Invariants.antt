use Rattle.std.proofs.Common.{◌≡◌, ◌++◌, drop, map}
use Rattle.client_lines.specs.Lines.{blanked}
use Rattle.client_lines.proofs.pieces.append_blanked.Given as goal

abbrev pub invariant-loop-byte : goal.invariant-loop-byte
invariant-loop-byte l = l.out.items ++ map blanked (drop l.byte-index l.bytes) ≡ l.fn.out.items ++ map blanked l.bytes
