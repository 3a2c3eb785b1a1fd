-- All tenants (this project's own): a key and a map for each, in the order of the keys given.
use Rattle.std.specs.Prelude.{◌≡◌, ℕ, ◌<◌, ◌≤◌, List, [], ◌∷◌, length, replicate, slice_set, Bool, true, false, ◌||◌, Option}
use Rattle.std.specs.List.{list_any, position_from}
use Rattle.std.specs.Map.{lookup}
use Rattle.tenant_map.specs.Keyed.{at}
use Rattle.tenant_map.specs.Maps.{Map}
use Rattle.tenant_map.specs.declared.tenants.TenantsFault.{TenantsFault}
use Rattle.tenant_map.specs.declared.tenants.TenantsFault.TheVariants.{NoKeys, TooManyKeys, RepeatedKey, Memory}

pub record Tenancy : Type 0 where
  pub keys : List (List ℕ)
  pub maps : List Map

abbrev pub tenant_limit : ℕ
tenant_limit = 256

-- the first place of the key
abbrev pub place_in : List (List ℕ) → List ℕ → Option ℕ
place_in keys key = position_from (at key) 0 keys

-- a key is equal to one after it
abbrev pub has_repeated : List (List ℕ) → Bool
has_repeated [] = false
has_repeated (k ∷ ks) = list_any (at k) ks || has_repeated ks

-- the keys make tenants without documents
pub record AcceptsKeys (keys : List (List ℕ)) (t : Tenancy) : Type 0 where
  pub some : 0 < length keys
  pub few : length keys ≤ tenant_limit
  pub distinct : has_repeated keys ≡ false
  pub keys_are : t.keys ≡ keys
  pub maps_are : t.maps ≡ replicate (length keys) []

-- why keys are refused, the first that applies in the order of the cases
abbrev pub RefusesKeys : List (List ℕ) → TenantsFault → Type 0
RefusesKeys keys NoKeys = length keys ≡ 0
RefusesKeys keys TooManyKeys = tenant_limit < length keys
RefusesKeys keys RepeatedKey = (0 < length keys) × (length keys ≤ tenant_limit) × (has_repeated keys ≡ true)
RefusesKeys keys Memory = (0 < length keys) × (length keys ≤ tenant_limit)

-- with this map at the place
abbrev pub with_map : Tenancy → ℕ → Map → Tenancy
with_map t place m = record { keys = t.keys; maps = slice_set t.maps place m }

-- the places are those of the keys, and each key has a tenant
pub record IsIndexed (keys : List (List ℕ)) (places : List (List ℕ × ℕ)) (maps : List Map) : Type 0 where
  pub place : (q : List ℕ) → lookup (at q) places ≡ place_in keys q
  pub each : length maps ≡ length keys
