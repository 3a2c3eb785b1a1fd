-- The figures of tenants, place by place.
use Rattle.std.proofs.Common.{arith, ◌≡◌, ◌≢◌, ◌<◌, ◌+◌, ℕ, List, length, get_or, set, Option, ◌∙◌, sym, subst, inl, inr}
use Rattle.std.specs.Prelude.{◌==◌}
use Rattle.std.proofs.lemmas.Bool.{cases_Bool, eqb-true, eqb-false}
use Rattle.std.proofs.lemmas.List.{get_or-set_same, get_or-set_other}
use Rattle.tenant_map.specs.declared.usage.Usage.{Usage}
use Rattle.event_loop.specs.Gauging.{TellsOf, figure_of}

pub none_told : (of : Usage → ℕ) (usages : ℕ → Option Usage) (figures : List ℕ) → TellsOf of usages 0 figures
none_told of usages figures = λ place l. let f : ⊥ = omega (arith, l) in absurd f

pub one_told : (of : Usage → ℕ) (usages : ℕ → Option Usage) (i figure : ℕ) (figures : List ℕ) → i < length figures → figure ≡ figure_of of (usages i) → TellsOf of usages i figures → TellsOf of usages (i + 1) (set figures i figure)
one_told of usages i figure figures l e h = λ place k. elim (cases_Bool (place == i)) [
  | inl m ↦
      let same : place ≡ i = eqb-true place i m in
      subst (λ (x : ℕ). get_or (set figures i figure) x 0 ≡ figure_of of (usages x)) (sym same) (get_or-set_same figures i figure 0 l ∙ e)
  | inr m ↦
      let n : place ≢ i = eqb-false place i m in
      get_or-set_other figures i place figure 0 n ∙ h place (omega (arith, k, n))
]
