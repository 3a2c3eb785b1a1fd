use Rattle.std.proofs.Common.{arith, rules}
use Rattle.query_machine.specs.Levels.{left_in}
use Rattle.query_machine.proofs.Above.{spends_none}
use Rattle.query_machine.proofs.evaluation.advance.Goals as goal

pub loop-init : goal.loop-init
loop-init c =
    let m = c.args.machine.now in
    let s = c.saturating_sub-least.ensures in
    record { on = c.requires.on_way; little = spends_none c.args.doc.now c.args.plan.now c.saturating_sub-least.result (left_in m) (search (rules, arith, s)) }
