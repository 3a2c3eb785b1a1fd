use Rattle.std.proofs.Common.{◌≡◌, ◌++◌, [], drop, map}
use Rattle.client_frames.specs.Readings.{found_of, name_of}
use Rattle.client_lines.specs.Lines.{documents_behind}
use Rattle.client_lines.proofs.hits.documents_of.Given as goal

abbrev pub invariant-loop-hit : goal.invariant-loop-hit
invariant-loop-hit l = map name_of l.names.items ++ documents_behind l.last (map found_of (drop l.hit-index l.hits)) ≡ documents_behind [] (map found_of l.hits)
