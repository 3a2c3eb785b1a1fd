use Rattle.std.proofs.Common.{◌-◌}
use Rattle.name_order.specs.Ordered.{word_of}
use Rattle.name_order.proofs.KeysLeft.{IsGiven}
use Rattle.name_order.proofs.order.sort_words.Given as goal

abbrev pub invariant-loop-k : goal.invariant-loop-k
invariant-loop-k l = IsGiven (word_of l.factor) l.text l.tape l.n l.k l.end l.words.items

abbrev pub decreases-loop-k : goal.decreases-loop-k
decreases-loop-k l = l.end - l.k
