-- What a core of turns does: this project's own.
use Rattle.std.specs.Prelude.{ℕ, ◌≤◌, ◌&&◌, ◌||◌, Bool, List, length, Option}
use Rattle.connection_turns.specs.declared.ahead.Ahead.{Ahead}

-- What is seen of a core, which is all but the work under way; whether no request of a connection waits; how much is left of what a connection has under way, and what is in front on it; and
-- what a core does at a connection: its session is opened or ended, a piece of its stream is taken, a request of it is answered.
pub record CoreSteps (C : Type 0) : Type 1 where
  pub Seen : Type 0
  pub seen : C → Seen
  pub idle : ℕ → Seen → Type 0
  pub left : ℕ → C → Option ℕ
  pub aheads : ℕ → C → Ahead → Type 0
  pub opens : ℕ → Seen → Seen → Type 0
  pub closes : ℕ → Seen → Seen → Type 0
  pub takes : ℕ → Seen → List ℕ → Seen → Type 0
  pub answers : ℕ → Seen → List ℕ → Seen → Type 0

-- whatever is answered now, it has at most so many bytes
abbrev pub IsMost : {C : Type 0} → (C → List ℕ → C → Type 0) → C → ℕ → Type 0
IsMost {C} answers core most = (reply : List ℕ) (new : C) → answers core reply new → length reply ≤ most

-- the request that is answered next on a connection is not gone on with: it waits for others, or it may take long where only brief work is wanted
abbrev pub is_held : {C : Type 0} → (waits longs : ℕ → C → Bool) → (is_brief : Bool) → (conn : ℕ) → C → Bool
is_held waits longs is_brief conn core = waits conn core || (is_brief && longs conn core)
