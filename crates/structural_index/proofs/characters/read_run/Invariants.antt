use Rattle.std.proofs.Common.{◌≡◌, ◌-◌, ◌%◌, ◌≤◌, length, take, drop}
use Rattle.simdutf8.specs.Tracks.{HasRead}
use Rattle.structural_index.proofs.characters.read_run.Given as goal

abbrev pub invariant-reading : goal.invariant-reading
invariant-reading l =
    record {
      from : l.fn.from ≤ l.at;
      within : l.at ≤ length l.text;
      whole : l.at % 64 ≡ 0;
      seen : HasRead l.checker (take (l.at - l.fn.from) (drop l.fn.from l.text));
    }

abbrev pub decreases-reading : goal.decreases-reading
decreases-reading l = length l.text - l.at
