-- Claims and budgets as one: each claim of a connection has its share, and each share is claimed. This project's own.
use Rattle.std.specs.Prelude.{◌≡◌, ◌⊎◌, ◌≤◌, ◌-◌, ◌++◌, ◌==◌, ◌&&◌, ℕ, min, List, [], ◌∷◌, Bool, true, false, Option, Some, IfSome}
use Rattle.std.specs.Option.{option_map}
use Rattle.memory_budget.specs.declared.share.Share.{Share}
use Rattle.memory_budget.specs.declared.share.Grant.{Grant}
use Rattle.memory_budget.specs.declared.share.Grant.TheVariants.{Granted, Waits}
use Rattle.memory_budget.specs.States.{State, answer_to}
use Rattle.memory_budget.specs.Tickets.{OthersStay, shares_as, with_share}
use Rattle.wire_frames.specs.declared.parts.TheConstants.{MOST_REPLY}
use Rattle.connection_turns.specs.Held.{claimed}
use Rattle.connection_turns.specs.declared.claim.Claim.{Claim}
use Rattle.connection_turns.specs.declared.claim.Need.{Need}
use Rattle.connection_turns.specs.declared.claim.Pool.{Pool}
use Rattle.connection_turns.specs.declared.claim.Pool.TheVariants.{Tenants, Strangers}
use Rattle.open_connections.specs.declared.budgets.Budgets.{Budgets}
use Rattle.open_connections.specs.Shares.{in_pool, limits_in}

-- where the budgets keep a share: in which one, for which party, and under which ticket
pub record ShareKey : Type 0 where
  pub pool : Pool
  pub party : ℕ
  pub ticket : ℕ

abbrev pub place_of : Claim → ShareKey
place_of claim = record { pool = claim.pool; party = claim.party; ticket = claim.ticket }

-- the shares at a place, held and waiting
abbrev pub shares_at : ShareKey → Budgets → List Share × List Share
shares_at place budgets = shares_as (in_pool place.pool budgets) place.party place.ticket

-- what a connection claims is one share: held if the claim is granted, and else waiting
abbrev pub claimed_by : (key : ℕ) → Claim → List Share × List Share
claimed_by key claim = with_share claim.is_granted (record { ticket = claim.ticket; owner = key; bytes = claim.bytes }) ([], [])

abbrev pub HasShare : (key : ℕ) → Claim → Budgets → Type 0
HasShare key claim budgets = shares_at (place_of claim) budgets ≡ claimed_by key claim

-- the bytes that a tenant may ask for at once
abbrev pub most_in : Budgets → ℕ
most_in budgets = budgets.tenants.limit - budgets.tenants.spare

-- Each claim has its share, and no other stands at its place. Each share is claimed: a place is empty, or a connection claims what stands there. A longest reply may be asked for.
pub record Joined (claims : ℕ → Option Claim) (budgets : Budgets) : Type 0 where
  pub has : (key : ℕ) → IfSome (claims key) (λ claim. HasShare key claim budgets)
  pub owned : (place : ShareKey) → (shares_at place budgets ≡ ([], [])) ⊎ ((key : ℕ) × (option_map place_of (claims key) ≡ Some place))
  pub most : MOST_REPLY ≤ most_in budgets

-- ---- What each call changes

abbrev pub is_same_pool : Pool → Pool → Bool
is_same_pool Tenants Tenants = true
is_same_pool Tenants Strangers = false
is_same_pool Strangers Tenants = false
is_same_pool Strangers Strangers = true

abbrev pub is_at : ShareKey → ShareKey → Bool
is_at a b = is_same_pool a.pool b.pool && (a.party == b.party && a.ticket == b.ticket)

-- these shares stand at one place now, and nothing else changes
pub record ChangesAt (place : ShareKey) (shares : List Share × List Share) (old new : Budgets) : Type 0 where
  pub here : shares_at place new ≡ shares
  pub others : (p : ShareKey) → is_at p place ≡ false → shares_at p new ≡ shares_at p old
  pub limits : limits_in new ≡ limits_in old
  pub most : most_in new ≡ most_in old

-- one place of one budget changes
pub record ChangesIn (party ticket : ℕ) (shares : List Share × List Share) (old new : State) : Type 0 where
  pub here : shares_as new party ticket ≡ shares
  pub others : OthersStay party ticket old new
  pub limit : new.limit ≡ old.limit
  pub spare : new.spare ≡ old.spare

-- a claim comes, whose place was empty
pub record Comes (key : ℕ) (claim : Claim) (old new : Budgets) : Type 0 where
  pub free : shares_at (place_of claim) old ≡ ([], [])
  pub changes : ChangesAt (place_of claim) (claimed_by key claim) old new

-- a share that waited is held
pub record Holds (share : Share) (old new : Budgets) : Type 0 where
  pub place : ShareKey
  pub left : List Share
  pub ticket_is : place.ticket ≡ share.ticket
  pub waited : (shares_at place old).1 ≡ share ∷ left
  pub changes : ChangesAt place ((shares_at place old).0 ++ share ∷ [], left) old new

-- a need of at most the bytes that may be asked for at once
abbrev pub within : Need → State → Need
within need s = record need { bytes = min need.bytes (s.limit - s.spare) }

-- the claim that comes of asking, by the budget's answer
abbrev pub claim_by : Need → Grant → (now : ℕ) → Claim
claim_by need (Granted ticket) now = claimed need ticket true now
claim_by need (Waits ticket) now = claimed need ticket false now

abbrev pub claim_asked : Need → (now : ℕ) → State → Claim
claim_asked need now s = claim_by (within need s) (answer_to s need.party (within need s).bytes) now

-- such a claim, and the share that comes with it
pub record IsAsked (key : ℕ) (need : Need) (claim : Claim) (old new : State) : Type 0 where
  pub pool : claim.pool ≡ need.pool
  pub free : shares_as old claim.party claim.ticket ≡ ([], [])
  pub changes : ChangesIn claim.party claim.ticket (claimed_by key claim) old new
