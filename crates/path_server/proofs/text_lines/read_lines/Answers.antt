use Rattle.std.proofs.Common.{rules, ◌≡◌, length}
use Rattle.path_server.proofs.Splits.{all_spelled}
use Rattle.path_server.proofs.text_lines.read_lines.Goals as goal

pub returns-clause-spelled : goal.returns-clause-spelled
returns-clause-spelled g c =
    let none : length c.loop-rest.rest.now ≡ 0 = search rules in
    all_spelled g.T.Line.spells c.args.text.now c.loop-rest.things.items c.loop-rest.rest.now c.loop-rest.invariant none
