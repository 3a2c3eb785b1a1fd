use Rattle.std.proofs.Common.{sym, ◌∙◌, decimal}
use Rattle.path_server.proofs.Splits.{no_beginning, decimal_lacks_space, one_split}
use Rattle.path_server.proofs.script.read_beginning.Goals as goal

pub returns-in_default-clause-none : goal.returns-in_default-clause-none
returns-in_default-clause-none c = no_beginning c.args.line.now c.in_default.ensures.none

pub returns-in_default-read_number-clause-none : goal.returns-in_default-read_number-clause-none
returns-in_default-read_number-clause-none c conn word b =
    let parts = c.in-Some.ensures.some in
    let same = one_split 32 c.in-Some.digits.now c.in-Some.word.now (decimal conn) word parts.first (decimal_lacks_space conn b.small) (sym parts.split ∙ b.line_is) in
    c.in_default-read_number.ensures.none conn b.small same.0
