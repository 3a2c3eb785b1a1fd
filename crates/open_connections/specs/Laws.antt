-- Laws that the definitions have to meet.
use Rattle.std.specs.Prelude.{◌≡◌, ℕ}
use Rattle.due_list.specs.declared.due.Due.{Due}
use Rattle.connection_turns.specs.Cores.{CoreSteps}
use Rattle.open_connections.specs.Looping.{Does, Lanes, Stays, Step}
use Rattle.open_connections.specs.Opened.{is_open_at}
use Rattle.open_connections.specs.Turns.{OthersStand, StatesStay}
use Rattle.open_connections.specs.Woken.{Passes, Serves, StaysWoken, Wakes}
use Rattle.open_connections.specs.declared.open.Open.{Open}

-- Where nothing changes twice, nothing changes. A step before which nothing changes is that step, and so is one behind which nothing does.
pub record JoinsSteps {C : Type 0} (s : CoreSteps C) : Type 0 where
  pub twice : (a b c : Lanes s.Seen) → Stays a b → Stays b c → Stays a c
  pub before : (step : Step) (a b c : Lanes s.Seen) → Stays a b → Does s step b c → Does s step a c
  pub behind : (step : Step) (a b c : Lanes s.Seen) → Does s step a b → Stays b c → Does s step a c

-- States that stay twice stay. If those of all connections stay, those of all but one do, and the same ones are open. Those of all but one stay if they do so twice.
pub record JoinsStates (S C T : Type 0) : Type 0 where
  pub twice : (a b c : Open S C T) → StatesStay a b → StatesStay b c → StatesStay a c
  pub others : (key : ℕ) (a b : Open S C T) → StatesStay a b → OthersStand key a b
  pub apart : (key : ℕ) (a b c : Open S C T) → OthersStand key a b → OthersStand key b c → OthersStand key a c
  pub there : (key : ℕ) (a b : Open S C T) → StatesStay a b → is_open_at key b ≡ is_open_at key a

-- If one connection is woken, nobody is forgotten. A turn of this round that is had is passed.
pub record PassesTurns (S C T : Type 0) : Type 0 where
  pub woken : (key : ℕ) (a b : Open S C T) → Wakes key a b → StaysWoken a b
  pub had : (due : Due) (a b : Open S C T) → Serves due.key a b → Passes due a b
