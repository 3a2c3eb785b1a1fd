-- What a connection has of the budgets of memory, and that it is given back: this project's own.
use Rattle.std.specs.Prelude.{◌≡◌, ◌≤◌, ◌+◌, ◌-◌, ◌/◌, ◌^◌, ℕ, max, min, nat_le, nat_lt, Bool, List, [], ◌∷◌, ◌++◌, Option, Some, None, if◌then◌else◌}
use Rattle.std.specs.Option.{option_and_then}
use Rattle.slab.specs.Slab.{Slab, get}
use Rattle.memory_budget.specs.States.{State, Next, fresh, grants, own, party_at, all_held, left}
use Rattle.memory_budget.specs.declared.share.Share.{Share}
use Rattle.due_list.specs.Rounds.{party_of}
use Rattle.wire_frames.specs.declared.parts.Part.{Part}
use Rattle.wire_frames.specs.declared.parts.TheConstants.{LONGEST_FRAME, MOST_REPLY}
use Rattle.connection_turns.specs.Held.{covers}
use Rattle.connection_turns.specs.declared.ahead.Ahead.{Ahead}
use Rattle.connection_turns.specs.declared.claim.Claim.{Claim}
use Rattle.connection_turns.specs.declared.claim.Need.{Need}
use Rattle.connection_turns.specs.declared.claim.Pool.{Pool}
use Rattle.connection_turns.specs.declared.claim.Pool.TheVariants.{Tenants, Strangers}
use Rattle.connection_turns.specs.declared.claim.Purpose.TheVariants.{Frame, Written}
use Rattle.open_connections.specs.declared.budgets.Budgets.{Budgets}
use Rattle.connection_turns.specs.declared.connection.Connection.{Connection}

abbrev pub in_pool : Pool → Budgets → State
in_pool Tenants budgets = budgets.tenants
in_pool Strangers budgets = budgets.strangers

-- what a tenant that holds something leaves to those that hold nothing: an eighth, or a longest reply where that is more, as far as one can be asked for beside it
abbrev pub spare_of : ℕ → ℕ
spare_of limit = min (max (limit / 8) MOST_REPLY) (limit - MOST_REPLY)

abbrev pub tenants_of : ℕ → State
tenants_of limit = fresh limit (spare_of limit) 257

-- those of so much memory, of which nothing is held: a longest frame for strangers, and the rest for tenants, at least a longest reply
abbrev pub fresh_budgets : ℕ → Budgets
fresh_budgets memory = record { tenants = tenants_of (max (memory - LONGEST_FRAME) MOST_REPLY); strangers = fresh LONGEST_FRAME 0 1 }

-- the limits of both
abbrev pub limits_in : Budgets → ℕ × ℕ
limits_in budgets = (budgets.tenants.limit, budgets.strangers.limit)

-- the bytes that may be held of both, and those that nobody holds
abbrev pub limit_of : Budgets → ℕ
limit_of budgets = min (budgets.tenants.limit + budgets.strangers.limit) (2 ^ 64 - 1)

abbrev pub left_of : Budgets → ℕ
left_of budgets = min (left budgets.tenants + left budgets.strangers) (2 ^ 64 - 1)

-- the bytes of a frame are those of the tenant in front, and a stranger's where there is none
abbrev pub pool_of : Option ℕ → Pool
pool_of None = Strangers
pool_of (Some place) = Tenants

abbrev pub frame_party : Option ℕ → ℕ
frame_party None = 0
frame_party (Some place) = party_of (Some place)

-- a frame that came in part takes a share if it is longer than what each may have without one
abbrev pub needed_for : (tenant : Option ℕ) → Option Part → Option Need
needed_for tenant None = None
needed_for tenant (Some part) = if nat_le part.length 16384 then None else Some (record { pool = pool_of tenant; party = frame_party tenant; purpose = Frame; bytes = part.length })

-- what one without a share needs beside a reply, where so much is owed, the tenant was answered last, and this is in front and not to be answered
abbrev pub needed : (owed : ℕ) → (reads : Bool) → (tenant : Option ℕ) → Option Ahead → Option Need
needed owed reads tenant front =
    if nat_lt 32768 owed then Some (record { pool = Tenants; party = party_of tenant; purpose = Written; bytes = owed })
    else (if reads then option_and_then (λ ahead. needed_for ahead.tenant ahead.part) front else None)

-- what is granted next: a tenant's share, or else a stranger's
abbrev pub or_else : List Share → List Share → List Share
or_else [] ys = ys
or_else (x ∷ xs) ys = x ∷ xs

abbrev pub granted_next : Budgets → List Share
granted_next budgets = or_else (grants budgets.tenants Next) (grants budgets.strangers Next)

-- what is held of each is together at most its limit
pub record IsWithin (budgets : Budgets) : Type 0 where
  pub tenants : all_held budgets.tenants.parties ≤ budgets.tenants.limit
  pub strangers : all_held budgets.strangers.parties ≤ budgets.strangers.limit

-- no share of this party has this ticket, held or waiting
abbrev pub IsFree : (party ticket : ℕ) → State → Type 0
IsFree party ticket s = own ticket ((party_at s party).held ++ (party_at s party).waiting) ≡ []

-- tickets that no share has stay so
abbrev pub StayFree : Budgets → Budgets → Type 0
StayFree old new = (pool : Pool) (party ticket : ℕ) → IsFree party ticket (in_pool pool old) → IsFree party ticket (in_pool pool new)

abbrev pub IsGivenBack : Option Claim → Budgets → Type 0
IsGivenBack None budgets = Unit {0}
IsGivenBack (Some claim) budgets = IsFree claim.party claim.ticket (in_pool claim.pool budgets)

-- the share of the connection under a key
abbrev pub claim_at : {S : Type 0} → Slab (Connection S) → ℕ → Option Claim
claim_at slab key = option_and_then (λ c. c.claim) (get slab key)

-- whether a reply of so many bytes may be given: within what each may buffer without a share, or with a granted share
abbrev pub is_covered : Option Claim → (reply : ℕ) → Bool
is_covered None reply = nat_le reply 16384
is_covered (Some claim) reply = covers claim reply
