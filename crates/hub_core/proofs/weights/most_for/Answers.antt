use Rattle.std.proofs.Common.{sym}
use Rattle.wire_frames.specs.Readings.{asked_of}
use Rattle.hub_core.proofs.Bounds.{of_tenant, of_none}
use Rattle.hub_core.proofs.weights.most_for.Goals as goal

pub returns-in-Some-clause-most : goal.returns-in-Some-clause-most
returns-in-Some-clause-most c =
    of_tenant c.args.tenants.now c.args.request.now.key c.in-Some.place _ (asked_of c.args.request.now.command) c.tenant.result.now (sym c.in-Some.ensures.place) c.tenant.ensures c.most_by.ensures.most

pub returns-in-None-clause-most : goal.returns-in-None-clause-most
returns-in-None-clause-most c = of_none c.args.tenants.now c.args.request.now.key _ (asked_of c.args.request.now.command) (sym c.in-None.ensures.place)
