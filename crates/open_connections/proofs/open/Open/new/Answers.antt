use Rattle.std.proofs.Common.{[], false, rules, subst, sym}
use Rattle.open_connections.specs.Joined.{Joined}
use Rattle.open_connections.specs.Shares.{claim_at}
use Rattle.open_connections.specs.declared.budgets.Budgets.{Budgets}
use Rattle.open_connections.proofs.Joined.{fresh_joined}
use Rattle.open_connections.proofs.Woken.{none_woken}
use Rattle.open_connections.proofs.open.Open.new.Goals as goal

pub returns-clause-woken : goal.returns-clause-woken
returns-clause-woken g c = none_woken 0 false c.new-5.result.first.items c.new-5.result.rest.items c.new-3.result (λ q. search rules) []

pub returns-clause-joined : goal.returns-clause-joined
returns-clause-joined g c = subst (λ (b : Budgets). Joined (claim_at c.new-3.result) b) (sym c.in_ok-budgets.ensures) (fresh_joined c.new-3.result c.args.memory (λ q. search rules))
