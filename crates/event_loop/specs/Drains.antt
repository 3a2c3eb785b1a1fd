-- What a server that drains does to the connections that are open: this project's own.
use Rattle.std.specs.Prelude.{ℕ, ◌+◌, nat_lt, Option, Some, None, IsFalse, if◌then◌else◌}
use Rattle.outbox.specs.Traffic.{Traffic}
use Rattle.connection_turns.specs.Cores.{CoreSteps}
use Rattle.open_connections.specs.declared.open.Open.{Open}
use Rattle.open_connections.specs.Looping.{Stays}
use Rattle.open_connections.specs.Opened.{lanes_of, rests_at, HasLeft}
use Rattle.event_loop.specs.declared.parting.Parting.{Parting}
use Rattle.event_loop.specs.declared.parting.Parting.TheVariants.{Served, Leaves, Cut}

-- until the grace is over each is served on; from then on it leaves; 10 seconds later it is cut
abbrev pub parting_at : (since grace now : ℕ) → Parting
parting_at since grace now = if nat_lt now (since + grace) then Served else (if nat_lt now (since + grace + 10) then Leaves else Cut)

-- by the second in which the drain began, and the grace that was asked for last; where there is none, the server does not drain
abbrev pub parting_of : (since grace : Option ℕ) → (now : ℕ) → Parting
parting_of None grace now = Served
parting_of (Some since) None now = Served
parting_of (Some since) (Some grace) now = parting_at since grace now

-- one that leaves is read no more, and all else stays
pub record LeavesAt {S C T : Type 0} (s : CoreSteps C) (told : S → Option Traffic) (key : ℕ) (old new : Open S C T) : Type 0 where
  pub stays : Stays (lanes_of s told old) (lanes_of s told new)
  pub left : HasLeft key new

-- One that is served on stays as it is. One that leaves is closed if it rests. One that is cut may be closed, whatever it does.
abbrev pub Parts : {S C T : Type 0} → CoreSteps C → (S → Option Traffic) → Parting → (key : ℕ) → Open S C T → Open S C T → Type 0
Parts s told Served key old new = Stays (lanes_of s told old) (lanes_of s told new)
Parts s told Leaves key old new = IsFalse (rests_at key old) → LeavesAt s told key old new
Parts s told Cut key old new = Unit {0}
