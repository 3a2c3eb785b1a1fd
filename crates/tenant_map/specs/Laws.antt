-- Each put has one answer (a law of this project's own): what the relations say of a map and a put settles it, want of memory aside.
use Rattle.std.specs.Prelude.{◌≡◌, ◌≢◌, ℕ, List}
use Rattle.tenant_map.specs.declared.faults.StoreFault.{StoreFault}
use Rattle.tenant_map.specs.declared.faults.StoreFault.TheVariants.{NoMemory}
use Rattle.tenant_map.specs.Maps.{Map}
use Rattle.tenant_map.specs.Answers.{AcceptsPut, RefusesPut, AcceptsPutNew, RefusesPutNew}

pub record PutsAnswerOnce : Type 0 where
  pub fault : (collection document text : List ℕ) (m : Map) (f g : StoreFault) → f ≢ NoMemory → g ≢ NoMemory → RefusesPut collection document text m f → RefusesPut collection document text m g → f ≡ g
  pub either : (collection document text : List ℕ) (m n : Map) (f : StoreFault) → f ≢ NoMemory → AcceptsPut collection document text m n → RefusesPut collection document text m f → ⊥
  pub new_fault : (collection document text : List ℕ) (m : Map) (f g : StoreFault) → f ≢ NoMemory → g ≢ NoMemory → RefusesPutNew collection document text m f → RefusesPutNew collection document text m g → f ≡ g
  pub new_either : (collection document text : List ℕ) (m n : Map) (f : StoreFault) → f ≢ NoMemory → AcceptsPutNew collection document text m n → RefusesPutNew collection document text m f → ⊥
