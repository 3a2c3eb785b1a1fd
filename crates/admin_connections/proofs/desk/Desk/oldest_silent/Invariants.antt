use Rattle.std.proofs.Common.{IfSome}
use Rattle.slab.specs.Slab.{get}
use Rattle.admin_connections.specs.Desks.{IsSilent}
use Rattle.admin_connections.proofs.desk.Desk.oldest_silent.Given as goal

abbrev pub invariant-loop-place : goal.invariant-loop-place
invariant-loop-place g l = IfSome l.oldest (λ place. IsSilent (get l.self.callers place))
