use Rattle.std.proofs.Common.{◌≡◌, ◌*◌, inl, inr, subst, arith, rules}
use Rattle.std.proofs.lemmas.Bool.{cases_lt}
use Rattle.server_arguments.specs.Causes.{IsKeyAt}
use Rattle.server_arguments.proofs.failure.bad_key.Goals as goal

pub loop-n-preserved : goal.loop-n-preserved
loop-n-preserved c = λ i l. elim (cases_lt i c.loop-n.n) [
  | inl p ↦ c.loop-n.invariant i p
  | inr p ↦ subst (λ k. IsKeyAt c.args.words.now (33 * k)) (let e : c.loop-n.n ≡ i = omega arith in e) (c.if-not-is_key_at.ensures.0 (search rules))
]
