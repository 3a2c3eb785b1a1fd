use Rattle.std.proofs.Common.{◌∙◌, ap}
use Rattle.path_server.proofs.Splits.{lines_split, lines_last}
use Rattle.path_server.specs.TextLines.{lines_in}
use Rattle.path_server.proofs.text_lines.first_line.Goals as goal

pub returns-in-Some-clause-lines : goal.returns-in-Some-clause-lines
returns-in-Some-clause-lines c =
    let parts = c.in-Some.parts in
    ap lines_in c.in-Some.ensures.some.split ∙ lines_split parts.0.now parts.1.now c.in-Some.ensures.some.first

pub returns-in-None-clause-lines : goal.returns-in-None-clause-lines
returns-in-None-clause-lines c = lines_last c.args.text.now c.requires c.in-None.ensures.none
