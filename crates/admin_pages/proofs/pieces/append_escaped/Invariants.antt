use Rattle.std.proofs.Common.{◌≡◌, ◌++◌, drop, flat_map}
use Rattle.admin_pages.specs.Labels.{escaped_byte}
use Rattle.admin_pages.proofs.pieces.append_escaped.Given as goal

abbrev pub invariant-loop-byte : goal.invariant-loop-byte
invariant-loop-byte l = l.out.items ++ flat_map escaped_byte (drop l.byte-index l.text) ≡ l.fn.out.items ++ flat_map escaped_byte l.text
