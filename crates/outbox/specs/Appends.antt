-- How the next request is answered: this project's own.
use Rattle.std.specs.Prelude.{◌≡◌, ◌≢◌, ◌⊎◌, ◌<◌, ℕ, List, ◌++◌, Bool, true, false, IsFalse, Option, Some, None}
use Rattle.outbox.specs.Lines.{Line}
use Rattle.outbox.specs.declared.answers.Step.{Step}
use Rattle.outbox.specs.declared.answers.Step.TheVariants.{Replied, Idle, Last, Refused, Working}

-- with a reply, which is the last one or not
abbrev pub RepliesTo : {C X : Type 0} → Bool → (C → List ℕ → C → Type 0) → (C → Bool) → (X → List ℕ → X) → C → X → X → C → Type 0
RepliesTo {C} {X} is_last answers over with_reply old before after new = (reply : List ℕ) × (after ≡ with_reply before reply) × answers old reply new × (over new ≡ is_last)

-- a reply was appended, and the core is left so; or nothing is
abbrev pub Steps : {C X : Type 0} → (C → List ℕ → C → Type 0) → (C → Type 0) → (C → Bool) → (X → List ℕ → X) → Step → C → X → X → C → Type 0
Steps answers idle over with_reply Replied old before after new = RepliesTo false answers over with_reply old before after new
Steps answers idle over with_reply Idle old before after new = idle old × (after ≡ before) × (new ≡ old)
Steps answers idle over with_reply Last old before after new = RepliesTo true answers over with_reply old before after new
Steps answers idle over with_reply Refused old before after new = (after ≡ before) × (new ≡ old)
Steps answers idle over with_reply Working old before after new = (after ≡ before) × (new ≡ old)

-- what is appended to bytes
abbrev pub Appends : {C : Type 0} → (C → List ℕ → C → Type 0) → (C → Type 0) → (C → Bool) → Step → C → List ℕ → List ℕ → C → Type 0
Appends answers idle over step old before after new = Steps answers idle over (λ bytes reply. bytes ++ reply) step old before after new

abbrev pub with_reply : Line → List ℕ → Line
with_reply line reply = record line { owed = line.owed ++ reply }

-- what a line owes behind a step
abbrev pub Owes : {C : Type 0} → (C → List ℕ → C → Type 0) → (C → Type 0) → (C → Bool) → Step → C → Line → Line → C → Type 0
Owes answers idle over step old before after new = Steps answers idle over with_reply step old before after new

-- what other connections have under way stays as it is
abbrev pub OthersKeep : {C : Type 0} → (ℕ → C → Option ℕ) → (conn : ℕ) → C → C → Type 0
OthersKeep left conn old new = (q : ℕ) → q ≢ conn → left q new ≡ left q old

-- work is under way, and where it was before, less of it is left
abbrev pub IsLess : (old new : Option ℕ) → Type 0
IsLess old None = ⊥
IsLess None (Some new) = Unit {0}
IsLess (Some old) (Some new) = new < old

-- what is under way stays as it is, or less of it is left
abbrev pub KeepsWork : (old new : Option ℕ) → Type 0
KeepsWork old new = (new ≡ old) ⊎ IsLess old new

-- a share of work leaves less, unless the request is held
abbrev pub Shares : (is_held : Bool) → (old new : Option ℕ) → Type 0
Shares is_held old new = KeepsWork old new × (IsFalse is_held → IsLess old new)

-- what a connection has under way behind a step: where no request waits it is as before
abbrev pub Works : Step → (is_held : Bool) → (old new : Option ℕ) → Type 0
Works Replied is_held old new = Unit {0}
Works Idle is_held old new = new ≡ old
Works Last is_held old new = Unit {0}
Works Refused is_held old new = Unit {0}
Works Working is_held old new = Shares is_held old new
