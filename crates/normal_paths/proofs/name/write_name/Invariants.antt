use Rattle.std.proofs.Common.{◌≡◌, ◌≤◌, ◌++◌, length, take}
use Rattle.std.specs.Vec.{vec_capacity}
use Rattle.normal_paths.specs.NormalPath.{name_text}
use Rattle.normal_paths.proofs.name.write_name.Given as goal

abbrev pub invariant-loop-scalar : goal.invariant-loop-scalar
invariant-loop-scalar l = record {
  same : l.out.items ++ name_text l.scalar-iterator ≡ l.fn.out.items ++ name_text l.fn.name;
  kept : take (length l.fn.out.items) l.out.items ≡ l.fn.out.items;
  room : vec_capacity l.fn.out ≤ vec_capacity l.out;
}
