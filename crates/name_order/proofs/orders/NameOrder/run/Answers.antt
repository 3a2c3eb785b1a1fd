use Rattle.json_text.proofs.Names.{◌<◌, Ok, Err, List, length, subst, rules, nat_cmp, ap}
use Rattle.std.specs.List.Sorted.{IsBinarySearchResult}
use Rattle.std.proofs.lemmas.List.Sorted.{answers_always}
use Rattle.name_order.specs.Orders.{Kept}
use Rattle.name_order.specs.declared.orders.Header.{Header}
use Rattle.name_order.proofs.OrderWords.{found, absent, sliced}
use Rattle.name_order.proofs.orders.NameOrder.run.Goals as goal

pub returns-in_default : goal.returns-in_default
returns-in_default c =
    let by_key = c.in_default.ensures.position (λ (h : Header). h.object) (answers_always _ _ _ (λ f a r g called. search rules)) in
    absent _ _ _ (ap (λ (k : Kept). k.orders) c.self.view_is) c.args.object c.self.invariant c.in_default.field-0 (subst (λ hs. IsBinarySearchResult (λ (h : Header). nat_cmp h.object c.args.object) hs (Err c.in_default.field-0)) c.deref.ensures.value by_key)

pub returns : goal.returns
returns c = let by_key = c.in-Ok.ensures.position (λ (h : Header). h.object) (answers_always _ _ _ (λ f a r g called. search rules)) in
    let h = c.index-header.result.now in
    found _ _ _ (ap (λ (k : Kept). k.orders) c.self.view_is) c.args.object c.in-Ok.at (subst (λ (hs : List Header). c.in-Ok.at < length hs) c.deref.ensures.value c.in-Ok.ensures.bound)
    (subst (λ hs. IsBinarySearchResult (λ (h : Header). nat_cmp h.object c.args.object) hs (Ok c.in-Ok.at)) c.deref.ensures.value by_key) h c.index-header.ensures _ (sliced h.start h.count _ _ c.deref-2.ensures.value)
