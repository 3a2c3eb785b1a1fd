use Rattle.std.proofs.Common.{◌∙◌}
use Rattle.hub_core.proofs.Bounds.{of_same}
use Rattle.hub_core.proofs.weights.weigh.Goals as goal

pub returns-in-Some-clause-most : goal.returns-in-Some-clause-most
returns-in-Some-clause-most c = λ body e. of_same _ c.in-Some.body.now body _ c.weigh_body.ensures.most (c.in-Some.ensures ∙ e)
