use Rattle.request_replies.specs.Tenants.{fresh}
use Rattle.path_hub.proofs.Running.{IsSoFar}
use Rattle.path_hub.proofs.hub.run.Given as goal

abbrev pub invariant-loop-event : goal.invariant-loop-event
invariant-loop-event l = IsSoFar l.events l.event-index (fresh l.keys) l.initial.out.items l.hub.sessions l.hub.tenants l.out.items
