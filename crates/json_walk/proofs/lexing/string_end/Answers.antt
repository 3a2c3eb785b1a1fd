use Rattle.json_text.proofs.Names.{◌≡◌, ◌+◌, subst, drop, quote_end}
use Rattle.json_walk.specs.Placing.{StringEnds}
use Rattle.json_walk.proofs.Placing.{scanned_string}
use Rattle.json_walk.proofs.lexing.string_end.Goals as goal

pub returns-in-Some-clause-ends : goal.returns-in-Some-clause-ends
returns-in-Some-clause-ends c = subst (StringEnds c.args.looks.now.0 c.args.i) c.in-Some.is
    (scanned_string c.args.looks.now.0 c.args.i c.quote_past.result c.requires.indexed.utf8 c.requires.in_text c.requires.quote
    (subst (λ b. c.quote_past.result ≡ quote_end (c.args.i + 1) (drop (c.args.i + 1) b)) c.has_quote_before.ensures.same c.quote_past.ensures.value))
