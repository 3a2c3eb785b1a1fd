use Rattle.std.proofs.Common.{◌≡◌, ◌∙◌, ℕ, List, Option, Some, None, sym, subst}
use Rattle.slab.specs.Slab.{get}
use Rattle.outbox.specs.Traffic.{Traffic}
use Rattle.admin_pages.specs.declared.standing.Standing.{Standing}
use Rattle.admin_connections.specs.declared.desk.Caller.{Caller}
use Rattle.admin_connections.specs.Desks.{SaysAt}
use Rattle.admin_connections.specs.Visits.{hosts_of}
use Rattle.admin_connections.proofs.desk.Desk.step.Goals as goal

-- what was said at a connection stays so where it is closed behind it
closed : {S : Type 0} (own : List (List ℕ)) (told : S → Option Traffic) (was is behind : Option (Caller S)) (old mid new : Standing) → SaysAt own told was is old mid → new ≡ mid → behind ≡ None → SaysAt own told was behind old new
closed own told None is behind old mid new h e n = e ∙ h
closed {S} own told (Some caller) None behind old mid new h e n = subst (λ (x : Option (Caller S)). SaysAt own told (Some caller) x old new) (sym n) (subst (λ (x : Standing). SaysAt own told (Some caller) None old x) (sym e) h)
closed {S} own told (Some caller) (Some caller') behind old mid new h e n = subst (λ (x : Option (Caller S)). SaysAt own told (Some caller) x old new) (sym n) (subst (λ (x : Standing). SaysAt own told (Some caller) None old x) (sym e) (told caller'.stream, h))

pub returns-then-not-go_on-clause-said : goal.returns-then-not-go_on-clause-said
returns-then-not-go_on-clause-said g c = closed (hosts_of c.args.self.now.about) g.S.Wire.told _ (get c.go_on.new.self.callers c.args.place) _ _ _ _ c.go_on.ensures.said c.close.ensures.standing c.close.ensures.gone
