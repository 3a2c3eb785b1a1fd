use Rattle.std.proofs.Common.{◌≡◌, ℕ, List, take, false}
use Rattle.std.specs.Map.{lookup}
use Rattle.tenant_map.specs.Keyed.{at}
use Rattle.tenant_map.specs.Tenancy.{place_in, has_repeated}
use Rattle.tenant_map.proofs.tenants.places_of.Given as goal

abbrev pub invariant-loop-i : goal.invariant-loop-i
invariant-loop-i l = record {
  place : (q : List ℕ) → lookup (at q) l.places.entries ≡ place_in (take l.i l.keys) q;
  distinct : has_repeated (take l.i l.keys) ≡ false;
}
