use Rattle.std.proofs.Common.{◌≡◌, ◌++◌, drop, map}
use Rattle.name_order.specs.Ordered.{key_in}
use Rattle.name_order.proofs.order.sorted_keys.Given as goal

abbrev pub invariant-loop-member : goal.invariant-loop-member
invariant-loop-member l = l.keys.items ++ map (key_in l.text l.tape) (drop l.member-index l.words) ≡ map (key_in l.text l.tape) l.words
