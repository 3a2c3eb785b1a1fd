use Rattle.std.proofs.Common.{ap, subst, sym, map, length, ◌*◌, ◌≤◌, ◌∙◌}
use Rattle.decisions.specs.Order.{value_cmp}
use Rattle.decisions.specs.Places.{place}
use Rattle.decisions.specs.Truth.{truth}
use Rattle.decisions.specs.Views.{constant_value, test_view}
use Rattle.decisions.proofs.Decided.{looked_up}
use Rattle.decisions.proofs.decision.Decision.holds.Goals as goal

pub returns : goal.returns
returns g c =
    let v = g.S.ComparedSide.value c.args.side.now in
    let xs = c.self.inside.literals.items in
    let at = c.side_place.ensures.place ∙ ap (λ ys. place value_cmp (map constant_value ys) v) c.deref.ensures.value in
    let within = subst (λ ys. c.side_place.result ≤ 2 * length ys) c.deref.ensures.value c.side_place.ensures.within in
    looked_up c.tells_by_places.ensures xs c.self.inside.tables.items c.self.inside.relation (test_view c.self.inside.test) v c.index-cells.result.now c.kind_number.result c.side_place.result c.index.result.now
    c.self.invariant.1 c.kind_number.ensures at within c.index-cells.ensures c.index.ensures
    ∙ ap (λ r. truth v r (test_view c.self.inside.test)) (sym (c.is.ensures c.if-not-is.false))
    ∙ ap (λ t. truth v c.args.relation (test_view t)) c.self.view_is
