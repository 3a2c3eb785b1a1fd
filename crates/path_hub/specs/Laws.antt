-- What follows from the contracts of the hub: this project's own laws.
use Rattle.std.specs.Prelude.{◌≡◌, ℕ, List, [], ◌∷◌, ◌++◌, map, Some, false}
use Rattle.path_hub.specs.declared.wire.ConnEnd.TheVariants.{Done}
use Rattle.tenant_map.specs.Maps.{Map}
use Rattle.tenant_map.specs.Tenancy.{Tenancy}
use Rattle.request_replies.specs.Answers.{Alone, is_no_memory}
use Rattle.request_replies.specs.Tenants.{map_of}
use Rattle.path_hub.specs.Items.{Item}
use Rattle.path_hub.specs.Runs.{Sent, Run, own_requests, own_replies}
use Rattle.path_hub.specs.Into.{sent, joined}
use Rattle.path_hub.specs.HubState.{HubState}
use Rattle.path_hub.specs.Wires.{Move, Meaning, Traffic, read_in, written_in}
use Rattle.path_hub.specs.Serving.{ServesConnection, Ends, items_in}

-- each tenant's own replies are those that its own requests get from its map alone
abbrev pub RunsApart : Type 0
RunsApart = (items : List Item) (replies : List Sent) (old new : Tenancy) (key : List ℕ) (m : Map) → Run old items replies new → map_of key old ≡ Some m
    → Alone m (own_requests key items replies) (own_replies key items replies)

-- what moved on a wire is bytes read and the replies to the items of these bytes
pub record IsReplied (conn : ℕ) (h h' : HubState) (t u : Traffic) : Type 0 where
  pub moved : List Move
  pub moves_are : u.moves ≡ t.moves ++ moved
  pub frames : List (List ℕ)
  pub run : Run h.tenants (items_in conn (read_in moved)) (map (sent conn) frames) h'.tenants
  pub written_is : written_in moved ≡ joined frames

abbrev pub ServedBytes : Type 0
ServedBytes = (conn : ℕ) (h h' : HubState) (m n : Meaning) (t u : Traffic) → ServesConnection conn h m Done h' n → m.traffic ≡ Some t → n.traffic ≡ Some u → IsReplied conn h h' t u

abbrev pub IsPlain : List (List ℕ) → Type 0
IsPlain [] = Unit {0}
IsPlain (frame ∷ frames) = (is_no_memory frame ≡ false) × IsPlain frames

-- two connections served from equal maps, whose bytes are equal however they were cut
abbrev pub ServedOnce : Type 0
ServedOnce = (conn : ℕ) (h h' k k' : HubState) (m n m' n' : Meaning) (x : Ends conn h m Done h' n) (y : Ends conn k m' Done k' n') → h.tenants ≡ k.tenants → read_in x.moved ≡ read_in y.moved
    → IsPlain x.frames → IsPlain y.frames → (written_in x.moved ≡ written_in y.moved) × (h'.tenants ≡ k'.tenants)
