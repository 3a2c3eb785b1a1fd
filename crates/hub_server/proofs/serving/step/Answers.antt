use Rattle.hub_server.proofs.Looping.{are_served}
use Rattle.hub_server.proofs.serving.step.Goals as goal

pub returns-clause-served : goal.returns-clause-served
returns-clause-served g c = are_served c.loop_is_served.ensures _ _ c.step.ensures.steps
