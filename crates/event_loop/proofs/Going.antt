-- One round more, behind others.
use Rattle.std.specs.Prelude.{◌+◌, ◌++◌, List, [], ◌∷◌, Bool, ℕ, Option}
use Rattle.std.proofs.Common.{ap, length-append, refl, subst, ◌∙◌}
use Rattle.outbox.specs.Traffic.{Traffic}
use Rattle.connection_turns.specs.Cores.{CoreSteps}
use Rattle.event_loop.specs.Servers.{GoesRounds, GoesSoMany, IsRound, Serving}

one_more : (S T : Type 0) {C : Type 0} (s : CoreSteps C) (told : S → Option Traffic) (waits longs : ℕ → C → Bool) (rounds : List (Serving C)) (a b c : Serving C) → GoesRounds S T s told waits longs rounds a b → IsRound S T s told waits longs b c → GoesRounds S T s told waits longs (rounds ++ (c ∷ [])) a c
one_more S T s told waits longs [] a b c h r = (subst (λ x. IsRound S T s told waits longs x c) h r, refl)
one_more S T s told waits longs (next ∷ rounds) a b c h r = (h.0, one_more S T s told waits longs rounds next b c h.1 r)

pub no_round : (S T : Type 0) {C : Type 0} (s : CoreSteps C) (told : S → Option Traffic) (waits longs : ℕ → C → Bool) (a : Serving C) → GoesSoMany S T s told waits longs 0 a a
no_round S T s told waits longs a = ([], refl, refl)

pub round_then : (S T : Type 0) {C : Type 0} (s : CoreSteps C) (told : S → Option Traffic) (waits longs : ℕ → C → Bool) (n : ℕ) (a b c : Serving C) → GoesSoMany S T s told waits longs n a b → IsRound S T s told waits longs b c → GoesSoMany S T s told waits longs (n + 1) a c
round_then S T s told waits longs n a b c h r = (h.0 ++ (c ∷ []), one_more S T s told waits longs h.0 a b c h.1 r, length-append h.0 (c ∷ []) ∙ ap (λ m. m + 1) h.2)
