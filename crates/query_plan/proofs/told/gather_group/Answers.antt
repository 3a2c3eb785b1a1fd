use Rattle.std.proofs.Common.{rules, arith}
use Rattle.query_plan.proofs.Joining.{group_passed, valid_behind}
use Rattle.query_plan.proofs.told.gather_group.Goals as goal

pub loop-i-preserved-then-numbers-i : goal.loop-i-preserved-then-numbers-i
loop-i-preserved-then-numbers-i c =
    let each = c.requires.each in
    let inside = c.loop-i-test.true in
    let rest = group_passed c.args.numbers.now c.args.operands.now c.args.number c.loop-i.i (omega (arith, each, inside)) inside c.if-numbers-i.true in
    let valid = valid_behind c.args.operands.now c.loop-i.i c.loop-i.invariant.valid in
    search (rules, rest, valid)
