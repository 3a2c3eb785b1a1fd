use Rattle.std.proofs.Common.{◌-◌}
use Rattle.json_tape.proofs.MembersSeen.{Rest}
use Rattle.json_tape.proofs.document.Document.first_named.Given as goal

abbrev pub invariant-loop-k : goal.invariant-loop-k
invariant-loop-k l = Rest l.self l.name l.fn.n.0 l.k l.end

abbrev pub decreases-loop-k : goal.decreases-loop-k
decreases-loop-k l = l.end - l.k
