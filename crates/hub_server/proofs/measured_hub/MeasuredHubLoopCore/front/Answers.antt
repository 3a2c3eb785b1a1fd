use Rattle.hub_server.proofs.measured_hub.MeasuredHubLoopCore.front.Goals as goal

pub returns-clause-most : goal.returns-clause-most
returns-clause-most c = rw (← c.self.view_is) (λ reply new a. c.front.ensures.ahead.most reply new.hub a.answers)
