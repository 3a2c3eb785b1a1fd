use Rattle.std.proofs.Common.{◌≡◌, ◌↔◌, ◌++◌, drop, map}
use Rattle.client_frames.specs.Readings.{found_of}
use Rattle.client_lines.specs.Lines.{AreUtf8, json_lines}
use Rattle.client_lines.proofs.hits.append_json_hits.Given as goal

abbrev pub invariant-loop-hit : goal.invariant-loop-hit
invariant-loop-hit l =
    (l.out.items ++ json_lines (map found_of (drop l.hit-index l.hits)) ≡ l.fn.out.items ++ json_lines (map found_of l.hits))
    × (AreUtf8 (map found_of (drop l.hit-index l.hits)) ↔ AreUtf8 (map found_of l.hits))
