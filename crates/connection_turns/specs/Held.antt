-- What a connection holds of the budgets: this project's own.
use Rattle.std.specs.Prelude.{◌==◌, ◌&&◌, ℕ, nat_le, Bool, true, false, not, Option, Some, None, if◌then◌else◌}
use Rattle.connection_turns.specs.declared.claim.After.{After}
use Rattle.connection_turns.specs.declared.claim.After.TheVariants as after
use Rattle.connection_turns.specs.declared.claim.Claim.{Claim}
use Rattle.connection_turns.specs.declared.claim.Need.{Need}
use Rattle.connection_turns.specs.declared.claim.Purpose.{Purpose}
use Rattle.connection_turns.specs.declared.claim.Purpose.TheVariants as purpose

-- its share, held since this second
abbrev pub renewed : ℕ → Option Claim → Option Claim
renewed now None = None
renewed now (Some share) = Some (record share { since = now })

-- the share that is asked for, of the same budget, party and length
abbrev pub claimed : Need → (ticket : ℕ) → (is_granted : Bool) → (now : ℕ) → Claim
claimed need ticket is_granted now = record { ticket = ticket; bytes = need.bytes; since = now; pool = need.pool; party = need.party; purpose = need.purpose; is_granted = is_granted }

-- what becomes of a share that is granted, behind a turn: by what it is for, the bytes that are owed, and whether a request was answered in the turn
abbrev pub share_in : Purpose → (owed : ℕ) → (has_answered : Bool) → After
share_in purpose.Frame owed has_answered = if has_answered then after.Released else after.Kept
share_in purpose.Reply owed has_answered = if not has_answered then after.Kept else (if nat_le owed 32768 then after.Released else after.Written)
share_in purpose.Written owed has_answered = if owed == 0 then after.Released else after.Kept

-- one that waits is kept
abbrev pub share_after : Claim → (owed : ℕ) → (has_answered : Bool) → After
share_after claim owed has_answered = if not claim.is_granted then after.Kept else share_in claim.purpose owed has_answered

-- whether a reply of so many bytes may be given with a share that is granted: that to a long frame is short
abbrev pub covers_in : Purpose → (bytes reply : ℕ) → Bool
covers_in purpose.Frame bytes reply = true
covers_in purpose.Reply bytes reply = nat_le reply bytes
covers_in purpose.Written bytes reply = false

abbrev pub covers : Claim → (reply : ℕ) → Bool
covers claim reply = claim.is_granted && covers_in claim.purpose claim.bytes reply
