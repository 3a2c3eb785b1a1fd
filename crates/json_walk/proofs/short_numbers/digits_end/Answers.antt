use Rattle.json_text.proofs.Names.{◌+◌, ◌≤◌, arith, bit_at}
use Rattle.json_walk.proofs.short_numbers.digits_end.Goals.{After-clear_bits}
use Rattle.json_walk.proofs.short_numbers.digits_end.Goals as goal

pub clear_bits-requires-clause-end : goal.clear_bits-requires-clause-end
clear_bits-requires-clause-end c = c.requires.others.ends 63 (omega arith) (omega arith)

most : (c : After-clear_bits) → c.args.start + c.clear_bits.result ≤ 32
most c = c.clear_bits.ensures.few 32 c.requires.start (omega arith) (c.requires.others.ends 32 (omega arith) (omega arith))

pub overflow_add-result : goal.overflow_add-result
overflow_add-result c = let few = most c in omega (arith, few)

pub returns-clause-upper_bound : goal.returns-clause-upper_bound
returns-clause-upper_bound c = most c

pub returns-clause-few : goal.returns-clause-few
returns-clause-few c = λ before. let few = c.clear_bits.ensures.few 31 (omega arith) (omega arith) (c.requires.others.ends 31 (omega arith) (omega arith)) in omega arith

pub returns-clause-inside : goal.returns-clause-inside
returns-clause-inside c = grind (arith, most c)

pub returns-clause-digits : goal.returns-clause-digits
returns-clause-digits c = grind (arith, most c, bit_at c.args.others)
