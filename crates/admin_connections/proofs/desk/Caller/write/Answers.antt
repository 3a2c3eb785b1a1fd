use Rattle.std.proofs.Common.{◌∙◌, ap, take}
use Rattle.admin_connections.specs.Visits.{owed_of}
use Rattle.admin_connections.proofs.Sending.{sent_of}
use Rattle.admin_connections.proofs.desk.Caller.write.Goals as goal

pub returns-then-eq : goal.returns-then-eq
returns-then-eq g c = sent_of (g.S.Wire.told c.args.self.now.stream) _ (owed_of c.args.self.now.visit) _ c.front.result.now c.in-Bytes.count (c.front.ensures ∙ ap (take 16384) c.owed.ensures) c.in-Bytes.ensures.0 (c.end_writing.ensures ∙ c.in-Bytes.ensures.1) c.took.ensures

pub returns-else-eq : goal.returns-else-eq
returns-else-eq g c = sent_of (g.S.Wire.told c.args.self.now.stream) _ (owed_of c.args.self.now.visit) _ c.front.result.now c.in-Bytes.count (c.front.ensures ∙ ap (take 16384) c.owed.ensures) c.in-Bytes.ensures.0 c.in-Bytes.ensures.1 c.took.ensures
