use Rattle.query_plan.proofs.Deciding.{charge_decided}
use Rattle.query_plan.proofs.Joining.{charge_listed, holds_each, holds_listed}
use Rattle.query_plan.proofs.laws.means_conditions.Goals as goal

pub returns : goal.returns
returns c = record { paid_decided = charge_decided; paid_joined = charge_listed; some = holds_listed; all = holds_each }
