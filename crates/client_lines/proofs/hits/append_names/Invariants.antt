use Rattle.std.proofs.Common.{◌≡◌, ◌++◌, drop, map}
use Rattle.client_frames.specs.Readings.{name_of}
use Rattle.client_lines.specs.Lines.{name_lines}
use Rattle.client_lines.proofs.hits.append_names.Given as goal

abbrev pub invariant-loop-name : goal.invariant-loop-name
invariant-loop-name l = l.out.items ++ name_lines (map name_of (drop l.name-index l.names)) ≡ l.fn.out.items ++ name_lines (map name_of l.names)
