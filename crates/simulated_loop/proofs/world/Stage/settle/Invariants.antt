use Rattle.event_loop.specs.Servers.{lanes_in}
use Rattle.hub_server.specs.Measuring.{hub_steps}
use Rattle.hub_server.specs.Looping.{AreServed}
use Rattle.simulated_loop.proofs.world.Stage.settle.Given as goal

-- the rounds so far
abbrev pub invariant-rounds : goal.invariant-rounds
invariant-rounds l = AreServed (lanes_in hub_steps l.initial.self.server.value) (lanes_in hub_steps l.self.server.value)
