use Rattle.std.proofs.Common.{rules}
use Rattle.std.proofs.lemmas.Str.{chars_from_encodes}
use Rattle.path_grammar.proofs.reader.characters.Goals as goal

pub returns-in_ok-collect-in-Ok-clause-ok : goal.returns-in_ok-collect-in-Ok-clause-ok
returns-in_ok-collect-in-Ok-clause-ok c = (c.in-Ok.ensures.cases.1, search (rules, chars_from_encodes))
