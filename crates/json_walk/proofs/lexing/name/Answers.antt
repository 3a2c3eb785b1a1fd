use Rattle.std.proofs.Common.{arith}
use Rattle.json_walk.proofs.TokensAt.{no_name_at}
use Rattle.json_walk.proofs.lexing.name.Goals as goal

pub returns-else-at-eq34-clause-name : goal.returns-else-at-eq34-clause-name
returns-else-at-eq34-clause-name c = no_name_at c.args.looks.now.0 c.args.i c.requires.in_text (λ e. let f = c.if-at-eq34.false in let v = c.at.ensures.value in omega (arith, f, v, e))
