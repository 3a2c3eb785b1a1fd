use Rattle.std.proofs.Common.{arith}
use Rattle.json_text.specs.declared.tape.Kind.TheVariants.{Number}
use Rattle.json_walk.proofs.TokensAt.{word_at, no_value_at}
use Rattle.json_walk.proofs.Known.{spelt_marked}
use Rattle.json_walk.proofs.Runs.{ahead, blanks_last}
use Rattle.json_walk.proofs.lexing.word.Goals as goal

pub run-others-requires-clause-order : goal.run-others-requires-clause-order
run-others-requires-clause-order c = ahead c.args.looks.now.0 c.args.i c.args.next c.requires.in_text c.requires.closes

pub run-others-requires-clause-last : goal.run-others-requires-clause-last
run-others-requires-clause-last c = blanks_last c.args.looks.now.0 c.args.i c.args.next c.requires.in_text c.requires.closes c.requires.no_string

pub returns-in-Null-clause-value : goal.returns-in-Null-clause-value
returns-in-Null-clause-value c = search (arith, word_at)

pub returns-in-Null-clause-marked : goal.returns-in-Null-clause-marked
returns-in-Null-clause-marked c = search (arith, spelt_marked)

pub returns-in-False-clause-value : goal.returns-in-False-clause-value
returns-in-False-clause-value c = search (arith, word_at)

pub returns-in-False-clause-marked : goal.returns-in-False-clause-marked
returns-in-False-clause-marked c = search (arith, spelt_marked)

pub returns-in-True-clause-value : goal.returns-in-True-clause-value
returns-in-True-clause-value c = search (arith, word_at)

pub returns-in-True-clause-marked : goal.returns-in-True-clause-marked
returns-in-True-clause-marked c = search (arith, spelt_marked)

pub returns-in-Number-clause-value : goal.returns-in-Number-clause-value
returns-in-Number-clause-value c =
    word_at c.args.looks.now.0 c.run-others.result.bytes.now c.args.i c.args.next Number c.requires.in_text c.requires.closes c.run-others.ensures.value c.run-others.ensures.ends c.in-Number.ensures.0

pub returns-in-Nothing-clause-value : goal.returns-in-Nothing-clause-value
returns-in-Nothing-clause-value c = search (arith, no_value_at)
