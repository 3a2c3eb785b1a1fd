use Rattle.json_walk.specs.Walked.{is_text, begins_value}
use Rattle.json_walk.proofs.TokensAt.{text_at, none_at}
use Rattle.json_walk.proofs.lexing.string.Goals as goal

pub returns-in-None-clause-string : goal.returns-in-None-clause-string
returns-in-None-clause-string c = none_at is_text c.args.looks.now.0 c.args.i c.requires.in_text c.requires.quote c.in-None.ensures.ends

pub returns-in-None-clause-none : goal.returns-in-None-clause-none
returns-in-None-clause-none c = λ e. none_at begins_value c.args.looks.now.0 c.args.i c.requires.in_text c.requires.quote c.in-None.ensures.ends

pub returns-in-Some-clause-string : goal.returns-in-Some-clause-string
returns-in-Some-clause-string c = text_at c.args.looks.now.0 c.args.i c.in-Some.end c.in-Some.ensures.ends
