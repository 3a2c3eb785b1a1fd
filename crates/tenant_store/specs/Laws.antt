-- Each query has one answer (a law of this project's own): what the relations say of a collection and a query settles it, want of memory aside.
use Rattle.std.specs.Prelude.{◌≡◌, ◌≢◌, ℕ, List}
use Rattle.path_grammar.specs.Tree.{Segments}
use Rattle.tenant_map.specs.declared.faults.StoreFault.{StoreFault}
use Rattle.tenant_map.specs.declared.faults.StoreFault.TheVariants.{NoMemory}
use Rattle.tenant_map.specs.Maps.{Documents}
use Rattle.tenant_store.specs.Payloads.{AnswersQuery, RefusesQuery}

pub record QueriesAnswerOnce : Type 0 where
  pub appended : (q : Segments) (ds : Documents) (old new other : List ℕ) → AnswersQuery q ds old new → AnswersQuery q ds old other → new ≡ other
  pub fault : (q : Segments) (ds : Documents) (f g : StoreFault) → f ≢ NoMemory → g ≢ NoMemory → RefusesQuery q ds f → RefusesQuery q ds g → f ≡ g
  pub either : (q : Segments) (ds : Documents) (old new : List ℕ) (f : StoreFault) → f ≢ NoMemory → AnswersQuery q ds old new → RefusesQuery q ds f → ⊥
