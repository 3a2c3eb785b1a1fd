use Rattle.std.proofs.Common.{◌≡◌, ◌≤◌, ◌<◌, ◌++◌, ◌∷◌, length, take, reverse}
use Rattle.std.specs.Vec.{vec_capacity}
use Rattle.std.specs.List.{All}
use Rattle.json_tape.specs.Document.{count}
use Rattle.normal_paths.specs.Ways.{way_text}
use Rattle.normal_paths.proofs.path.write_way.Given as goal

abbrev pub invariant-loop-node : goal.invariant-loop-node
invariant-loop-node l = record {
  same : l.out.items ++ way_text l.doc (reverse l.way.items) ≡ l.fn.out.items ++ 36 ∷ way_text l.doc (reverse l.fn.way.items);
  kept : take (length l.fn.out.items) l.out.items ≡ l.fn.out.items;
  room : vec_capacity l.fn.out ≤ vec_capacity l.out;
  inside : All (λ id. id.0 < count l.doc) l.way.items;
}

abbrev pub decreases-loop-node : goal.decreases-loop-node
decreases-loop-node l = length l.way.items
