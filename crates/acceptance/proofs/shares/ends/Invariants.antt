use Rattle.path_hub.specs.UnderWay.{AreOnWay}
use Rattle.acceptance.proofs.shares.ends.Given as goal

abbrev pub invariant-shares : goal.invariant-shares
invariant-shares l = AreOnWay l.hub.tenants l.tasks
