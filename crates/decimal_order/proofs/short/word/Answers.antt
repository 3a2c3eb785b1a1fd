use Rattle.std.proofs.Common.{arith}
use Rattle.decimal_order.proofs.WordLoads.{word_of_one, word_of_two, word_of_three}
use Rattle.decimal_order.proofs.short.word.Goals as goal

pub returns-in-len3 : goal.returns-in-len3
returns-in-len3 c = let e = word_of_three c.args.text.now (omega arith) in omega arith

pub returns-in-len2 : goal.returns-in-len2
returns-in-len2 c = let e = word_of_two c.args.text.now (omega arith) in omega arith

pub returns-in-len1 : goal.returns-in-len1
returns-in-len1 c = let e = word_of_one c.args.text.now (omega arith) in omega arith
