use Rattle.std.proofs.Common.{◌≡◌, ◌+◌, ◌*◌, ◌≤◌, ◌<◌, length}
use Rattle.json_tape.specs.Document.{count, node_at}
use Rattle.normal_paths.specs.NormalPath.{normal_path, path_limit}
use Rattle.normal_paths.proofs.path.path_length.Given as goal

abbrev pub invariant-loop-parent : goal.invariant-loop-parent
invariant-loop-parent l = record {
  whole : l.total + length (normal_path (node_at l.doc l.last.0)) ≡ 1 + length (normal_path (node_at l.doc l.fn.node.0));
  inside : l.last.0 < count l.doc;
  small : l.total + (path_limit + 3) * l.last.0 ≤ 1 + (path_limit + 3) * l.fn.node.0;
}

abbrev pub decreases-loop-parent : goal.decreases-loop-parent
decreases-loop-parent l = l.last.0
