use Rattle.std.proofs.Common.{map, ap, ◌∙◌, ◌++◌}
use Rattle.path_grammar.specs.Tree.{exprs_of}
use Rattle.path_grammar.specs.View.{expr_view}
use Rattle.condition_reader.specs.Turns.{dealt}
use Rattle.decisions.specs.Views.{constant_view}
use Rattle.decisions.specs.Decided.{all_literals}
use Rattle.query_plan.proofs.Scales.{on_scale}
use Rattle.query_plan.proofs.told.scale_of.Goals as goal

pub returns : goal.returns
returns c =
    let es = exprs_of (map expr_view (dealt c.args.numbers.now c.args.number c.args.operands.now)) in
    on_scale c.in_ok-scale.scale es c.some_rooted-is_rooted.result c.in_ok-told.told (map constant_view c.gather_group.new.found.items) c.in_ok-scale.ensures.rooted c.in_ok-told.ensures.told c.if-not-told.false
    (c.in_ok-told.ensures.found ∙ ap (λ ls. ls ++ all_literals es) c.in_ok-found.ensures) c.in_ok-scale.ensures.known
