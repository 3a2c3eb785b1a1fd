use Rattle.std.proofs.Common.{ℕ, List, ap, ◌∙◌}
use Rattle.memory_budget.specs.States.{Next, grants}
use Rattle.memory_budget.specs.declared.share.Share.{Share}
use Rattle.open_connections.specs.Shares.{or_else}
use Rattle.open_connections.proofs.Shares.{granted, granted_within, held_tenants, next_strangers, stay}
use Rattle.open_connections.proofs.budgets.Budgets.next.Goals as goal

pub returns-in-Some-clause-free : goal.returns-in-Some-clause-free
returns-in-Some-clause-free c = stay _ _ (granted c.keeps.ensures.moved _ _ c.next.ensures.after) (λ q t f. f)

pub returns-in-Some-clause-limits : goal.returns-in-Some-clause-limits
returns-in-Some-clause-limits c = ap (λ (x : ℕ). (x, c.args.self.now.strangers.limit)) (granted_within c.keeps.ensures.limits c.args.self.now.tenants c.next.new.self c.next.ensures.after)

pub returns-in-None-clause-free : goal.returns-in-None-clause-free
returns-in-None-clause-free c = stay _ _ (granted c.keeps.ensures.moved _ _ c.next.ensures.after) (granted c.keeps.ensures.moved _ _ c.next-in-None.ensures.after)

pub returns-in-None-clause-limits : goal.returns-in-None-clause-limits
returns-in-None-clause-limits c = ap (λ (x : ℕ). (x, c.next-in-None.new.self.limit)) (granted_within c.keeps.ensures.limits c.args.self.now.tenants c.next.new.self c.next.ensures.after) ∙ ap (λ (x : ℕ). (c.args.self.now.tenants.limit, x)) (granted_within c.keeps.ensures.limits c.args.self.now.strangers c.next-in-None.new.self c.next-in-None.ensures.after)

pub returns-in-Some-clause-granted : goal.returns-in-Some-clause-granted
returns-in-Some-clause-granted c = held_tenants c.by_ticket.ensures.granted c.keeps.ensures.limits _ c.args.self.now _ c.in-Some.ensures.granted c.next.ensures.after

pub returns-in-None-clause-granted : goal.returns-in-None-clause-granted
returns-in-None-clause-granted c = next_strangers c.by_ticket.ensures.granted c.by_ticket.ensures.still c.keeps.ensures.limits _ c.args.self.now _ _ c.in-None.ensures.granted c.next.ensures.after c.next-in-None.ensures.granted c.next-in-None.ensures.after

pub returns-in-Some-clause-next : goal.returns-in-Some-clause-next
returns-in-Some-clause-next c = ap (λ (xs : List Share). or_else xs (grants c.args.self.now.strangers Next)) c.in-Some.ensures.granted

pub returns-in-None-clause-next : goal.returns-in-None-clause-next
returns-in-None-clause-next c = c.next-in-None.ensures.granted ∙ ap (λ (xs : List Share). or_else xs (grants c.args.self.now.strangers Next)) c.in-None.ensures.granted
