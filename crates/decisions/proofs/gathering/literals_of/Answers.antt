use Rattle.std.proofs.Common.{◌++◌, map, ap, ◌∙◌}
use Rattle.decisions.specs.Truth.{literals}
use Rattle.decisions.specs.Views.{constant_view, test_view}
use Rattle.decisions.proofs.Sorting.{known}
use Rattle.decisions.proofs.gathering.literals_of.Goals as goal

pub returns-clause-known : goal.returns-clause-known
returns-clause-known c =
    let ls = literals (test_view c.args.test.now) in
    known ls c.gather.new.found.items c.in_ok-literals.literals.items (c.in_ok-gather.ensures ∙ ap (λ xs. map constant_view xs ++ ls) c.new-found.ensures.items) c.in_ok-literals.ensures.kept
