use Rattle.std.proofs.Common.{◌≡◌, drop, length, map}
use Rattle.path_grammar.specs.View.{segment_view}
use Rattle.condition_reader.proofs.reading.are_one_path.Given as goal

abbrev pub invariant-loop-i : goal.invariant-loop-i
invariant-loop-i l = record {
  sized : length l.a ≡ length l.b;
  same : map segment_view (drop l.i l.a) ≡ map segment_view (drop l.i l.b) → map segment_view l.a ≡ map segment_view l.b;
}
