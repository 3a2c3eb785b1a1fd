use Rattle.std.proofs.Common.{refl, arith, ap}
use Rattle.name_order.specs.Orders.{Kept}
use Rattle.name_order.proofs.OrderWords.{one_more, one_shown}
use Rattle.name_order.proofs.orders.NameOrder.push.Goals as goal

pub invariant_of-self-2 : goal.invariant_of-self-2
invariant_of-self-2 c =
    rw (c.in_ok-push.ensures.items, c.in_ok-extend_from_slice.ensures.items) (one_more _ _ _ _ c.self.invariant (ap (λ (k : Kept). k.orders) c.self.view_is) _ (omega (arith, c.len.ensures, c.self.inside.words.ok.0)) refl c.requires)

pub returns : goal.returns
returns c = grind (arith, one_shown)
