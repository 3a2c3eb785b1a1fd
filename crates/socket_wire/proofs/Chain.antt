-- Chains of served connections.
use Rattle.std.proofs.Common.{◌≡◌, ℕ, suc, ◌+◌, Bool, true, false, eqb, None, ap, subst, refl, ◌∙◌, arith}
use Rattle.std.proofs.lemmas.Bool.{eqb-true, eqb-false}
use Rattle.path_hub.specs.declared.wire.ConnEnd.{ConnEnd}
use Rattle.path_hub.specs.HubState.{HubState}
use Rattle.path_hub.specs.Sessions.{session}
use Rattle.path_hub.specs.Serving.{ServesConnection}
use Rattle.path_hub.specs.Wires.{Meaning}
use Rattle.socket_wire.specs.Served.{IsFree, Service, ServedOne, Served}

pub stays_free : (n : ℕ) (h : HubState) (m : Meaning) (how : ConnEnd) (h' : HubState) (m' : Meaning) → IsFree h → ServesConnection n h m how h' m' → IsFree h'
stays_free n h m how h' m' free s q = by (eqb q n) refl
  where
    by : (b : Bool) → eqb q n ≡ b → session q h'.sessions ≡ None
    by true e = ap (λ c. session c h'.sessions) (eqb-true q n e) ∙ s.free
    by false e = s.ends.others_stay q (eqb-false q n e) ∙ free q

pub served_more : (n : ℕ) (s middle t : Service) → Served n s middle → ServedOne n middle t → Served (n + 1) s t
served_more n s middle t so_far one = let next : suc n ≡ n + 1 = omega arith in subst (λ k. Served k s t) next (middle, so_far, one)
