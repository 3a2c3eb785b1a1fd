-- Laws that the definitions have to meet.
use Rattle.std.specs.Prelude.{◌≡◌, ◌≢◌, ◌<◌, ◌++◌, ℕ, List, [], length, get_or, slice_get, Some, false}
use Rattle.path_types.specs.Verdict.{RefusesQueryText}
use Rattle.path_types.specs.declared.query_text.QueryFault.TheVariants.{Memory}
use Rattle.tenant_map.specs.Maps.{Map}
use Rattle.tenant_map.specs.Tenancy.{Tenancy, place_in, with_map}
use Rattle.wire_frames.specs.Requests.{Asked, Asks, Query, key_of, reading}
use Rattle.wire_frames.specs.Replies.{reply}
use Rattle.request_replies.specs.Answers.{Gives, MayWant}
use Rattle.request_replies.specs.Tenants.{Serves, fresh, is_short, map_of, with_map_of}

-- The map that is put under a key is that key's, and no other key's. Each key begins with the empty map.
pub record KeysApart : Type 0 where
  pub own : (key : List ℕ) (m old : Map) (t : Tenancy) → map_of key t ≡ Some old → map_of key (with_map_of key m t) ≡ Some m
  pub others : (key other : List ℕ) (m : Map) (t : Tenancy) → key ≢ other → map_of key (with_map_of other m t) ≡ map_of key t
  pub first : (keys : List (List ℕ)) (key : List ℕ) (n : ℕ) → n < length keys → get_or keys n key ≡ key → map_of key (fresh keys) ≡ Some []

-- What a body asks of the tenant at a place is served from the map there. Memory may be wanted for a query that is not too long.
pub record ServesPlaces : Type 0 where
  pub whole : (body : List ℕ) (number : ℕ) (key : List ℕ) (asked : Asked) → Asks number key asked ≡ reading body → (is_short body ≡ false) × (key ≡ key_of body)
  pub served : (t : Tenancy) (body before after : List ℕ) (number place : ℕ) (key : List ℕ) (asked : Asked) (old new : Map) → Asks number key asked ≡ reading body → place_in t.keys key ≡ Some place → slice_get t.maps place ≡ Some old
      → Gives old asked number before after new → Serves t body before after (with_map t place new)
  pub refused : (old new : Map) (asked : Asked) (number : ℕ) (before after : List ℕ) → after ≡ before ++ reply 21 number [] → new ≡ old → MayWant asked number old → Gives old asked number before after new
  pub wanted : (collection text : List ℕ) (number : ℕ) (m : Map) → RefusesQueryText text Memory → MayWant (Query collection text) number m
