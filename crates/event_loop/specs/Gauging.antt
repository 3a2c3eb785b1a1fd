-- What a page of metrics tells of tenants: this project's own.
use Rattle.std.specs.Prelude.{◌≡◌, ◌<◌, ℕ, List, Option, slice_get, slice_index}
use Rattle.std.specs.Option.{option_and_then, option_map_or}
use Rattle.tenant_map.specs.declared.usage.Usage.{Usage}

-- what the tenant holds whose key is at a place of the list
abbrev pub usage_in : {C : Type 0} → (List ℕ → C → Option Usage) → (keys : List (List ℕ)) → C → (place : ℕ) → Option Usage
usage_in held keys core place = option_and_then (λ key. held key core) (slice_get keys place)

-- one of its figures, and 0 where there is no tenant
abbrev pub figure_of : (Usage → ℕ) → Option Usage → ℕ
figure_of of usage = option_map_or of usage 0

-- those of the first so many places
abbrev pub TellsOf : (of : Usage → ℕ) → (ℕ → Option Usage) → (places : ℕ) → List ℕ → Type 0
TellsOf of usages places figures = (place : ℕ) → place < places → slice_index figures place ≡ figure_of of (usages place)
