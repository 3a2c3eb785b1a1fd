-- What a connection still has to be answered: this project's own.
use Rattle.std.specs.Prelude.{◌≡◌, ◌≢◌, ◌⊎◌, ℕ, List, [], ◌∷◌, ◌++◌, map, Option, Some, None, true, false, if◌then◌else◌}
use Rattle.wire_frames.specs.Frames.{Whole, Wait, Fault, front, frames, rest, is_broken}
use Rattle.wire_frames.specs.Framing.{Framing}
use Rattle.tenant_map.specs.Tenancy.{Tenancy}
use Rattle.path_hub.specs.declared.event.Reply.{Reply}
use Rattle.path_hub.specs.Items.{Item}
use Rattle.path_hub.specs.Runs.{Sent, StepItem, Run}

-- the bodies of the frames that wait, and the fault after them
abbrev pub bodies_in : List ℕ → List (Option (List ℕ))
bodies_in waiting = map Some (frames waiting) ++ (if is_broken waiting then None ∷ [] else [])

unfoldable pub pending : Framing → List (Option (List ℕ))
pending f = if f.closed then [] else bodies_in f.waiting

-- a closed connection waits at its fault
abbrev pub IsSound : Framing → Type 0
IsSound f = f.closed ≡ true → front f.waiting ≡ Fault

-- one frame or fault is taken
abbrev pub Takes : Framing → Option (List ℕ) → Framing → Type 0
Takes old (Some body) new = (old.closed ≡ false) × (new.closed ≡ false) × (front old.waiting ≡ Whole body new.waiting)
Takes old None new = (old.closed ≡ false) × (new.closed ≡ true) × (front old.waiting ≡ Fault) × (new.waiting ≡ old.waiting)

-- one step: a frame or fault is taken and answered
pub record Answered (f : Framing) (os : Tenancy) (before : List ℕ) (f' : Framing) (os' : Tenancy) (after : List ℕ) : Type 0 where
  pub body : Option (List ℕ)
  pub frame : List ℕ
  pub out : after ≡ before ++ frame
  pub step : StepItem os body frame os'
  pub takes : Takes f body f'

-- or there is none
pub record IsIdle (f : Framing) (os : Tenancy) (before : List ℕ) (f' : Framing) (os' : Tenancy) (after : List ℕ) : Type 0 where
  pub framing : f' ≡ f
  pub tenants : os' ≡ os
  pub out : after ≡ before
  pub none : (f.closed ≡ true) ⊎ (front f.waiting ≡ Wait)

-- a whole frame, or a fault, waits
pub record IsDue (f : Framing) : Type 0 where
  pub open' : f.closed ≡ false
  pub some : front f.waiting ≢ Wait

abbrev pub item : ℕ → Option (List ℕ) → Item
item conn body = record { conn = conn; body = body }

abbrev pub told : Reply → Sent
told r = record { conn = r.conn; frame = r.frame.items }

-- some of what is pending is answered, in order
pub record AnswersSome (conn : ℕ) (f : Framing) (os : Tenancy) (before : List Reply) (f' : Framing) (os' : Tenancy) (after : List Reply) : Type 0 where
  pub done : List (Option (List ℕ))
  pub replies : List Reply
  pub pending_is : pending f ≡ done ++ pending f'
  pub out : after ≡ before ++ replies
  pub run : Run os (map (item conn) done) (map told replies) os'
  pub rest_is : rest f'.waiting ≡ rest f.waiting
  pub sound : IsSound f → IsSound f'
