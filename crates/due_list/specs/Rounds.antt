-- The connections that get a turn in a round, and the time of each tenant in it: this project's own.
use Rattle.std.specs.Prelude.{◌≡◌, ℕ, ◌==◌, List, [], ◌∷◌, ◌++◌, min, nat_lt, not, ◌&&◌, ◌||◌, replicate, slice_index, slice_set, Option, Bool, true, false, if◌then◌else◌}
use Rattle.std.specs.Option.{option_map_or}
use Rattle.due_list.specs.declared.due.Due.{Due}
use Rattle.due_list.specs.declared.due.DueList.{DueList}
use Rattle.due_list.specs.Long.{added, may_begin}

-- whose time the turns of a connection take: the place of the tenant that asked on it last, and 256 where none did
abbrev pub party_of : Option ℕ → ℕ
party_of tenant = option_map_or (λ place. min place 256) tenant 256

abbrev pub due_at : (key number : ℕ) → Option ℕ → Due
due_at key number tenant = record { key = key; number = number; party = party_of tenant }

-- it is the last of those whose turns come first, or of the others, and nothing else changes
abbrev pub IsLast : Bool → Due → DueList → DueList → Type 0
IsLast true due old new = (new.first.items ≡ old.first.items ++ (due ∷ [])) × (new.rest.items ≡ old.rest.items)
IsLast false due old new = (new.first.items ≡ old.first.items) × (new.rest.items ≡ old.rest.items ++ (due ∷ []))

-- none gets a further turn yet, and no time was taken
pub record IsFresh (due : DueList) : Type 0 where
  pub first : due.first.items ≡ []
  pub rest : due.rest.items ≡ []
  pub times : due.micros ≡ replicate 257 0
  pub unspent : due.longs.micros ≡ 0
  pub none_begun : due.longs.has_begun ≡ false

-- the turns of the party took less than a span in this round, and it may have one that answers a request which may take long, if this is one
abbrev pub has_time : Due → (is_long : Bool) → DueList → Bool
has_time due is_long list = nat_lt (slice_index list.micros due.party) 1000 && (not is_long || may_begin list.longs due.party)

-- so many microseconds of a party's time are taken; that of others stays
abbrev pub charged : List ℕ → (party micros : ℕ) → List ℕ
charged times party micros = slice_set times party (added (slice_index times party) micros)

-- a turn takes its time of the party that is answered in it, or a whole span behind which a query is under way. If its connection stood under another
-- party, that one pays as well
abbrev pub after_turn : List ℕ → (stood heard micros : ℕ) → Bool → List ℕ
after_turn times stood heard micros is_under_way =
    charged (if stood == heard then times else charged times stood micros) heard (if is_under_way then 1000 else micros)
