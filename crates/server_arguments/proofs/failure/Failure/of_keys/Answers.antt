use Rattle.std.proofs.Common.{subst}
use Rattle.server_arguments.specs.Causes.{IsFirstBad}
use Rattle.server_arguments.proofs.failure.Failure.of_keys.Goals as goal

pub returns-in-BadKeys-clause-cause : goal.returns-in-BadKeys-clause-cause
returns-in-BadKeys-clause-cause c = rw c.in-BadKeys.is (subst (λ words. IsFirstBad words c.bad_key.result) c.as_bytes.ensures.value c.bad_key.ensures)
