use Rattle.std.proofs.Common.{◌-◌}
use Rattle.json_strings.specs.Keys.{sought_name}
use Rattle.name_order.proofs.Halving.{Between}
use Rattle.name_order.proofs.order.member_in.Given as goal

abbrev pub invariant-loop-low : goal.invariant-loop-low
invariant-loop-low l = Between l.factor l.text l.tape l.words (sought_name l.sought) l.low l.high

abbrev pub decreases-loop-low : goal.decreases-loop-low
decreases-loop-low l = l.high - l.low
