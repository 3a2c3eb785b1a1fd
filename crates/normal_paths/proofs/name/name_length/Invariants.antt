use Rattle.std.proofs.Common.{◌≡◌, ◌+◌, ◌*◌, ◌≤◌, length}
use Rattle.normal_paths.specs.NormalPath.{name_text}
use Rattle.normal_paths.proofs.name.name_length.Given as goal

abbrev pub invariant-loop-scalar : goal.invariant-loop-scalar
invariant-loop-scalar l = record {
  same : l.total + length (name_text l.scalar-iterator) ≡ length (name_text l.fn.name);
  small : l.total + 6 * length l.scalar-iterator ≤ 6 * length l.fn.name;
}
