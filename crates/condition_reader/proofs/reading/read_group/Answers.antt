use Rattle.std.proofs.Common.{rules, arith}
use Rattle.path_grammar.specs.View.{comparable_view}
use Rattle.condition_reader.proofs.Exprs.{group_passed, valid_behind, read_group}
use Rattle.condition_reader.proofs.reading.read_group.Goals as goal

pub loop-i-preserved-then-numbers-i : goal.loop-i-preserved-then-numbers-i
loop-i-preserved-then-numbers-i c =
    let each = c.requires.each in
    let inside = c.loop-i-test.true in
    let rest = group_passed c.args.numbers.now c.args.operands.now c.args.number c.loop-i.i (omega (arith, each, inside)) inside c.if-numbers-i.true in
    let valid = valid_behind c.args.operands.now c.loop-i.i c.loop-i.invariant.valid in
    search (rules, rest, valid)

pub returns : goal.returns
returns c = read_group (comparable_view c.args.side.now) c.loop-i.made.items c.args.numbers.now c.args.operands.now _ c.args.number c.loop-i.i c.loop-i-test.false c.requires.each c.loop-i.invariant.same
