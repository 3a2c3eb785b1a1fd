use Rattle.std.proofs.Common.{◌≡◌, ◌<◌, ◌++◌, reverse}
use Rattle.std.specs.List.{All}
use Rattle.json_tape.specs.Document.{count, node_at}
use Rattle.normal_paths.specs.NormalPath.{normal_path}
use Rattle.normal_paths.specs.Ways.{way_text}
use Rattle.normal_paths.proofs.path.way_up.Given as goal

abbrev pub invariant-loop-parent : goal.invariant-loop-parent
invariant-loop-parent l = record {
  path : normal_path (node_at l.doc l.fn.node.0) ≡ normal_path (node_at l.doc l.last.0) ++ way_text l.doc (reverse l.way.items);
  inside : l.last.0 < count l.doc;
  others : All (λ id. id.0 < count l.doc) l.way.items;
}

abbrev pub decreases-loop-parent : goal.decreases-loop-parent
decreases-loop-parent l = l.last.0
