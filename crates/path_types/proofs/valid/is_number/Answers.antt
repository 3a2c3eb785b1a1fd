use Rattle.std.proofs.Common.{◌↔◌, IsTrue, subst}
use Rattle.decimal_order.specs.Limits.{IsWithinLimits}
use Rattle.path_types.proofs.Numbers.{same_test, no_number}
use Rattle.path_types.proofs.valid.is_number.Goals as goal

pub returns-in-Some : goal.returns-in-Some
returns-in-Some c =
    same_test c.reads_one_way.ensures c.args.text.now c.within_limits.result c.in-Some.ensures.number
    (subst (λ t. IsTrue c.within_limits.result ↔ IsWithinLimits t) c.in-Some.ensures.same_text c.within_limits.ensures)

pub returns-in-None : goal.returns-in-None
returns-in-None c = no_number c.reads_one_way.ensures c.args.text.now c.in-None.ensures.not_number
