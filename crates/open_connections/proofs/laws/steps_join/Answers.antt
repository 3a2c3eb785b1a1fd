use Rattle.open_connections.proofs.Looping.{before_step, stays_then, step_then}
use Rattle.open_connections.proofs.laws.steps_join.Goals as goal

pub returns : goal.returns
returns g c = record { twice = stays_then; before = before_step g.C.LoopCore.steps; behind = step_then g.C.LoopCore.steps }
