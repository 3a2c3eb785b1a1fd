use Rattle.std.proofs.Common.{◌≡◌, sym, ap, ◌∙◌}
use Rattle.std.specs.Ordering.{nat_cmp}
use Rattle.std.specs.declared.cmp.Ordering.TheVariants.{Equal}
use Rattle.decisions.specs.Order.{kind}
use Rattle.decisions.specs.Views.{constant_view, constant_value}
use Rattle.decisions.proofs.Orders.{answers_alike}
use Rattle.decisions.proofs.order.is_below.Goals as goal

pub returns-in-Equal : goal.returns-in-Equal
returns-in-Equal g c =
    let v = g.S.ComparedSide.value c.args.side.now in
    let same : nat_cmp (kind (constant_value c.args.literal.now)) (kind v) ≡ Equal = ap (λ k. nat_cmp k (kind v)) (sym c.literal_kind.ensures) ∙ ap (nat_cmp c.literal_kind.result) (sym c.kind_number.ensures) ∙ sym c.cmp.ensures ∙ c.in-Equal.is in
    c.compare_back.ensures ∙ (answers_alike c.orders_values.ensures.numbers v (constant_view c.args.literal.now) same).less
