use Rattle.std.proofs.Common.{refl}
use Rattle.event_loop.proofs.rounds.Rounds.close.Goals as goal

pub returns : goal.returns
returns g c = record { lanes = c.close.ensures.lanes; closes = c.close.ensures.closes; others = c.close.ensures.others; woken = c.close.ensures.woken; tried = refl }
