use Rattle.std.proofs.Common.{subst}
use Rattle.path_grammar.specs.View.{query_view}
use Rattle.path_grammar.specs.Reading.{Gives}
use Rattle.path_grammar.specs.ReadingFilters.{query_at}
use Rattle.path_grammar.proofs.Answered.{IsAnswer, answered}
use Rattle.path_grammar.proofs.reader.parse.Goals as goal

pub returns : goal.returns
returns c =
    let a : IsAnswer c.args.text.now c.query.result =
    answered c.args.text.now c.in_ok-characters.characters.items c.query.result c.if-text-gt-QUERY_LIMIT.false c.in_ok-characters.ensures.ok.0 c.in_ok-characters.ensures.ok.1
    (subst (λ t. Gives query_view c.query.result (query_at t)) c.deref.ensures.value c.query.ensures) in
    record { spelled = a.spelled; one_tree = a.one_tree; too_long = a.too_long; not_well_formed = a.not_well_formed }
