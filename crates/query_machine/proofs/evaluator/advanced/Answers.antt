use Rattle.std.proofs.Common.{rules, arith, ◌≡◌, ◌+◌, ◌-◌, true}
use Rattle.std.specs.Option.{is_none}
use Rattle.query_machine.specs.Evaluators.{left_on}
use Rattle.query_machine.proofs.Above.{spends_none}
use Rattle.query_machine.proofs.Shares.{left_all}
use Rattle.query_machine.proofs.evaluator.advanced.Goals as goal

pub returns-in-Some-clause-little : goal.returns-in-Some-clause-little
returns-in-Some-clause-little c =
    let none : is_none c.args.evaluation.now ≡ true = search rules in
    let all = left_all c.args.units c.args.evaluation.now none in
    let less = rw c.in-Some.is at c.in_ok-selected.ensures.little in
    spends_none c.args.doc.now c.args.plan.now (left_on c.args.units c.args.evaluation.now) (c.args.units - c.in-Some.selected.charge + c.args.share) (omega (arith, all, less))
