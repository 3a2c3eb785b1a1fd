use Rattle.std.proofs.Common.{◌≡◌, ◌++◌, drop, map}
use Rattle.name_order.specs.Ordered.{word_with}
use Rattle.name_order.proofs.order.add_words.Given as goal

abbrev pub invariant-loop-key : goal.invariant-loop-key
invariant-loop-key l = l.words.items ++ map (word_with l.hash) (drop l.key-index l.keys) ≡ l.fn.words.items ++ map (word_with l.hash) l.keys
