use Rattle.std.proofs.Common.{refl}
use Rattle.event_loop.proofs.rounds.Rounds.linger.Goals as goal

pub returns : goal.returns
returns g c = record { lanes = c.linger.ensures.lanes; closes = c.linger.ensures.closes; others = c.linger.ensures.others; woken = c.linger.ensures.woken; tried = refl }
