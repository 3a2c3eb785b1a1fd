use Rattle.std.proofs.Common.{◌-◌, ◌+◌, ◌≤◌}
use Rattle.json_strings.specs.Spelling.{SpellPlainly}
use Rattle.json_strings.proofs.plain.same_run.Given as goal

abbrev pub invariant-loop-k : goal.invariant-loop-k
invariant-loop-k l = (l.k ≤ l.last + 4) × SpellPlainly l.bytes l.name 0 l.k

abbrev pub decreases-loop-k : goal.decreases-loop-k
decreases-loop-k l = l.last + 4 - l.k
