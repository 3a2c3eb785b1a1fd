use Rattle.std.proofs.Common.{ℕ, ◌*◌, ◌<◌}
use Rattle.server_arguments.specs.Causes.{IsKeyAt}
use Rattle.server_arguments.proofs.failure.bad_key.Given as goal

abbrev pub invariant-loop-n : goal.invariant-loop-n
invariant-loop-n l = (i : ℕ) → i < l.n → IsKeyAt l.words (33 * i)
