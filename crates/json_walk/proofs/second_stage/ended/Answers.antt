use Rattle.std.proofs.Common.{◌∙◌, arith}
use Rattle.json_walk.proofs.WalkContainer.{no_sign_halts, ended_walks, closed_behind}
use Rattle.json_walk.proofs.second_stage.ended.Goals as goal

pub returns-then-sign-ending-clause-walks : goal.returns-then-sign-ending-clause-walks
returns-then-sign-ending-clause-walks g c = λ text looked exceeds listed is.
    no_sign_halts text c.args.places.now listed c.args.k looked exceeds c.args.builder.now _ c.requires.inside c.requires.level (λ e. c.requires.no_comma (is ∙ e)) (λ e. omega (arith, is, c.if-sign-ending.true, c.ending.ensures, e))

pub returns-clause-walks : goal.returns-clause-walks
returns-clause-walks g c = grind (arith, ended_walks)

pub returns-clause-behind : goal.returns-clause-behind
returns-clause-behind g c = closed_behind c.args.k c.shut.result c.closed_at.result c.closed_at.ensures
