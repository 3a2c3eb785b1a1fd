use Rattle.std.proofs.Common.{ap}
use Rattle.hub_server.specs.Measuring.{MeasuredWork}
use Rattle.hub_server.proofs.Counting.{counted_once}
use Rattle.hub_server.proofs.measured_hub.MeasuredHub.count.Goals as goal

pub returns-clause-counts : goal.returns-clause-counts
returns-clause-counts c = counted_once _ (record { hub = c.self.inside.core.hub; metrics = c.self.inside.metrics }) _ _ _ _ _ _ _ (ap (λ (m : MeasuredWork). m.seen) c.self.view_is) c.served-served.ensures c.count.ensures
