use Rattle.std.proofs.Common.{rules, sym}
use Rattle.admin_connections.proofs.Beginning.{begun_at, ok_so}
use Rattle.admin_connections.proofs.desk.Desk.begin_page.Goals as goal

pub returns-else-is_err-clause-begins : goal.returns-else-is_err-clause-begins
returns-else-is_err-clause-begins g c = begun_at c.args.metrics.now c.args.gauges.now c.args.self.now.callers c.args.place c.in-Some.caller.now _ (sym c.in-Some.ensures.value) (ok_so _ c.begin_page.result (search rules) c.begin_page.ensures)
