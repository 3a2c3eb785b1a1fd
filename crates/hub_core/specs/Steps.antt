-- What a hub at work on its connections' requests has, and what a step at one of them leaves: this project's own.
use Rattle.std.specs.Prelude.{◌≡◌, ℕ, Bool, true, false, ◌&&◌, ◌||◌, Option, Some, IsTrue, IsFalse}
use Rattle.wire_frames.specs.Framing.{Framing}
use Rattle.outbox.specs.declared.answers.Step.{Step}
use Rattle.outbox.specs.declared.answers.Step.TheVariants.{Replied, Idle, Last, Refused, Working}
use Rattle.path_hub.specs.HubState.{HubState}
use Rattle.path_hub.specs.Into.{HasDue}
use Rattle.path_hub.specs.Sessions.{session}
use Rattle.path_hub.specs.UnderWay.{Clears, IsChargeAt, WorksOnFirst, is_first_held}
use Rattle.path_hub.specs.WorkLeft.{work_left_at}
use Rattle.path_hub.specs.declared.tasks.Advance.{Advance}
use Rattle.path_hub.specs.declared.tasks.Advance.TheVariants as share
use Rattle.path_hub.specs.declared.tasks.Tasks.{Tasks}
use Rattle.hub_core.specs.Long.{is_first_long}

-- a hub, and the queries and readings that are under way
pub record AtWork : Type 0 where
  pub hub : HubState
  pub tasks : Tasks

-- the request in front waits for what others have under way, or it may take long and the turn is brief
abbrev pub is_kept_back : (is_brief : Bool) → (conn : ℕ) → AtWork → Bool
is_kept_back is_brief conn now = is_first_held conn now.hub now.tasks || (is_brief && is_first_long conn now.hub)

-- how much is left of what a connection has under way
abbrev pub left_at : (conn : ℕ) → AtWork → Option ℕ
left_at conn now = work_left_at conn now.hub now.tasks

-- its query or its reading went on, with less left than there was
pub record GoesOn (conn : ℕ) (old new : AtWork) : Type 0 where
  pub framing : Framing
  pub was : session conn old.hub.sessions ≡ Some framing
  pub works : WorksOnFirst conn framing old.hub.tenants old.tasks new.tasks

-- It answers only where nothing keeps the request back, and then nothing of the connection is under way. It works only where the request is kept back, and
-- then nothing changes, or where what is under way comes nearer to its end. It is refused only where a request is due.
abbrev pub Works : Step → (units : Option ℕ) → (has_gone_on is_brief : Bool) → (conn : ℕ) → (old new : AtWork) → Type 0
Works Replied units has_gone_on is_brief conn old new = IsFalse (is_kept_back is_brief conn old) × Clears conn old.tasks new.tasks × IsChargeAt units conn old.hub
Works Last units has_gone_on is_brief conn old new = IsFalse (is_kept_back is_brief conn old) × Clears conn old.tasks new.tasks × IsChargeAt units conn old.hub
Works Idle units has_gone_on is_brief conn old new = IsFalse (is_kept_back is_brief conn old) × (new.tasks ≡ old.tasks)
Works Refused units has_gone_on is_brief conn old new = HasDue conn old.hub × Clears conn old.tasks new.tasks
Works Working units true is_brief conn old new = GoesOn conn old new
Works Working units false is_brief conn old new = IsTrue (is_kept_back is_brief conn old) × (new.tasks ≡ old.tasks)

-- the share of work that a step was, where it was one
abbrev pub share_of : Step → (units : Option ℕ) → (has_gone_on : Bool) → Advance
share_of Replied units has_gone_on = share.Replied units
share_of Last units has_gone_on = share.Replied units
share_of Working units true = share.Working
share_of Working units false = share.Idle
share_of Idle units has_gone_on = share.Idle
share_of Refused units has_gone_on = share.Idle
