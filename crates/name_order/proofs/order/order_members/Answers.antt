use Rattle.std.proofs.Common.{◌∙◌, ◌++◌, ◌∷◌, [], ap, subst}
use Rattle.name_order.specs.Ordered.{IsOrderOf}
use Rattle.name_order.proofs.Runs.{kept_more, objects_before}
use Rattle.name_order.proofs.order.order_members.Goals as goal

pub push-requires : goal.push-requires
push-requires c = objects_before _ _ _ _ c.requires.kept

pub returns-clause-kept : goal.returns-clause-kept
returns-clause-kept c = λ _.
    kept_more c.args.text.now c.args.tape.now c.args.n c.args.order.now _ _ c.requires.kept (subst (λ f. IsOrderOf f c.args.text.now c.args.tape.now c.args.n c.order_words.new.words.items) c.factor.ensures (c.in_ok-order_words.ensures.ordered c.if-branch.false))
    (c.in_ok-push.ensures ∙ ap (λ l. record { factor = c.args.order.now.factor; orders = c.args.order.now.orders ++ record { object = c.args.n; words = l } ∷ [] }) c.as_slice.ensures.value)
