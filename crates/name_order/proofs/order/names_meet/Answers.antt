use Rattle.json_text.proofs.Names.{◌∙◌, ◌-◌, sym, arith, nat_eq, on, pointwise}
use Rattle.json_text.proofs.Repeats.{next_over}
use Rattle.name_order.specs.Ordered.{name_in}
use Rattle.name_order.proofs.order.names_meet.Goals as goal

pub returns : goal.returns
returns c = sym (next_over (on (name_in c.args.text.now c.args.tape.now) (pointwise nat_eq)) c.args.words.now (c.loop-i.i - 1) (let t = c.loop-i-test.false in omega arith)) ∙ c.loop-i.invariant
