use Rattle.std.proofs.Common.{◌+◌, ◌-◌, ◌/◌, ◌<◌, ◌∙◌, sym, arith}
use Rattle.json_strings.specs.Keys.{sought_name}
use Rattle.name_order.proofs.Halving.{compared, higher, lower, nowhere, tied, member_of}
use Rattle.name_order.proofs.order.member_in.Goals as goal

pub compare_word-requires : goal.compare_word-requires
compare_word-requires c = (c.args.factor, c.requires.each (c.loop-low.low + (c.loop-low.high - c.loop-low.low) / 2) 0 (let t = c.loop-low-test.true in let i = c.loop-low.invariant.inside in omega arith))

pub loop-low-preserved-in-Less : goal.loop-low-preserved-in-Less
loop-low-preserved-in-Less c = let h : c.loop-low.low + (c.loop-low.high - c.loop-low.low) / 2 < c.loop-low.high = omega arith in
    higher c.args.factor c.args.text.now c.args.tape.now c.args.words.now (sought_name c.args.sought) c.requires c.loop-low.low c.loop-low.high _ c.loop-low.invariant h (compared c.args.factor c.args.text.now c.args.tape.now c.args.words.now (sought_name c.args.sought) c.requires (c.loop-low.low + (c.loop-low.high - c.loop-low.low) / 2) c.sought_hash-hash.result _ (let i = c.loop-low.invariant.inside in omega arith) c.sought_hash-hash.ensures (sym c.compare_word.ensures ∙ c.in-Less.is))

pub loop-low-preserved : goal.loop-low-preserved
loop-low-preserved c = let h : c.loop-low.low + (c.loop-low.high - c.loop-low.low) / 2 < c.loop-low.high = omega arith in
    lower c.args.factor c.args.text.now c.args.tape.now c.args.words.now (sought_name c.args.sought) c.requires c.loop-low.low c.loop-low.high _ c.loop-low.invariant h (compared c.args.factor c.args.text.now c.args.tape.now c.args.words.now (sought_name c.args.sought) c.requires (c.loop-low.low + (c.loop-low.high - c.loop-low.low) / 2) c.sought_hash-hash.result _ (let i = c.loop-low.invariant.inside in omega arith) c.sought_hash-hash.ensures (sym c.compare_word.ensures ∙ c.in-Greater.is))

pub returns-in-Equal-clause-found : goal.returns-in-Equal-clause-found
returns-in-Equal-clause-found c = let t = c.loop-low-test.true in let i = c.loop-low.invariant.inside in
    (member_of c.args.words.now (c.loop-low.low + (c.loop-low.high - c.loop-low.low) / 2) c.number_in.result (omega arith) c.number_in.ensures, rw c.number_in.ensures (tied c.args.factor _ _ (compared c.args.factor c.args.text.now c.args.tape.now c.args.words.now (sought_name c.args.sought) c.requires (c.loop-low.low + (c.loop-low.high - c.loop-low.low) / 2) c.sought_hash-hash.result _ (omega arith) c.sought_hash-hash.ensures (sym c.compare_word.ensures ∙ c.in-Equal.is))))

pub returns-clause-none : goal.returns-clause-none
returns-clause-none c = λ _ k l e. nowhere c.args.factor c.args.text.now c.args.tape.now c.args.words.now (sought_name c.args.sought) c.requires c.loop-low.low c.loop-low.high c.loop-low.invariant (let t = c.loop-low-test.false in omega arith) k l e
