use Rattle.std.proofs.Common.{rules}
use Rattle.query_plan.proofs.Scales.{alone_view}
use Rattle.query_plan.proofs.told.is_alone.Goals as goal

pub returns : goal.returns
returns c = let e = alone_view c.args.query.now in search (rules, e)
