use Rattle.std.proofs.Common.{◌≡◌, ap, Err}
use Rattle.json_text.specs.declared.tape.BuildFault.TheVariants.{NotJson}
use Rattle.json_walk.proofs.second_stage.build.Goals as goal

pub returns-in-Err-clause-refused : goal.returns-in-Err-clause-refused
returns-in-Err-clause-refused c = λ e. c.in-Err.ensures.refused (let same : c.in-Err.fault ≡ NotJson = cc in ap Err same)
