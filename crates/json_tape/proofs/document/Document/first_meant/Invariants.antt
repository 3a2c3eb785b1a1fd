use Rattle.std.proofs.Common.{◌-◌}
use Rattle.json_strings.specs.Keys.{sought_name}
use Rattle.json_tape.proofs.MembersSeen.{Rest}
use Rattle.json_tape.proofs.document.Document.first_meant.Given as goal

abbrev pub invariant-loop-next : goal.invariant-loop-next
invariant-loop-next l = Rest l.self (sought_name l.sought) l.fn.n.0 l.next l.end

abbrev pub decreases-loop-next : goal.decreases-loop-next
decreases-loop-next l = l.end - l.next
