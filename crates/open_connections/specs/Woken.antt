-- Who gets a turn: each connection that can go on stands in the list of those that do. This project's own.
use Rattle.std.specs.Prelude.{◌==◌, ◌&&◌, ◌||◌, ◌^◌, ◌++◌, ◌∷◌, [], ℕ, List, Option, Bool, true, false, not, nat_le, nat_lt, IsTrue}
use Rattle.std.specs.List.{list_any}
use Rattle.std.specs.Option.{option_map_or}
use Rattle.slab.specs.Slab.{Slab, get}
use Rattle.connection_turns.specs.declared.connection.Connection.{Connection}
use Rattle.connection_turns.specs.Planning.{can_go_on}
use Rattle.due_list.specs.declared.due.Due.{Due}
use Rattle.open_connections.specs.declared.open.Open.{Open}

-- a turn of the connection with this key and number is in this list
abbrev pub stands_in : (key number : ℕ) → List Due → Bool
stands_in key number list = list_any (λ due. due.key == key && due.number == number) list

-- What may be so between two changes. The connection under a key is within the keys that are looked at. This turn is to come, in the next round or in what is left of this one. The connection
-- under a key stands there, if it is due, or is spared. It is due or a turn of it would do nothing, or it is spared. Of large keys, under which there is none, no more is asked.
pub data Fact : Type 0 where
  Within : (key : ℕ) → Fact
  Stands : (key number : ℕ) (more : List Due) → Fact
  Listed : (is_spared : Bool) (key : ℕ) (more : List Due) → Fact
  Awake : (is_spared : Bool) (key : ℕ) → Fact

-- The connection is due, or a turn of it would do nothing. Or memory was refused for the list: then each is looked at before the next round. Whether there is room for any reply
-- changes what a turn does, and not whether it does anything.
abbrev pub is_awake_in : {S : Type 0} → (has_missed : Bool) → Option (Connection S) → Bool
is_awake_in has_missed slot = has_missed || option_map_or (λ c. c.is_due || not (can_go_on false c)) slot true

abbrev pub is_so_in : {S : Type 0} → Fact → (bound : ℕ) (has_missed : Bool) → Slab (Connection S) → (first rest : List Due) → Bool
is_so_in (Within key) bound has_missed slab first rest = option_map_or (λ c. nat_lt key bound && nat_lt key (2 ^ 32)) (get slab key) true
is_so_in (Stands key number more) bound has_missed slab first rest = stands_in key number (first ++ (rest ++ more))
is_so_in (Listed is_spared key more) bound has_missed slab first rest = is_spared || (nat_le (2 ^ 32) key || option_map_or (λ c. not c.is_due || stands_in key c.number (first ++ (rest ++ more))) (get slab key) true)
is_so_in (Awake is_spared key) bound has_missed slab first rest = is_spared || (nat_le (2 ^ 32) key || is_awake_in has_missed (get slab key))

abbrev pub is_so : {S C T : Type 0} → Fact → Open S C T → Bool
is_so fact o = is_so_in fact o.bound o.has_missed o.connections o.due.first.items o.due.rest.items

abbrev pub is_awake : {S C T : Type 0} → (key : ℕ) → Open S C T → Bool
is_awake key o = is_awake_in o.has_missed (get o.connections key)

-- one connection is not looked at yet
abbrev pub sparing : ℕ → Fact → Fact
sparing key (Within q) = Within q
sparing key (Stands q number more) = Stands q number more
sparing key (Listed is_spared q more) = Listed is_spared q more
sparing key (Awake is_spared q) = Awake (is_spared || q == key) q

-- nor is it known where it stands
abbrev pub leaving_out : ℕ → Fact → Fact
leaving_out key (Within q) = Within q
leaving_out key (Stands q number more) = Stands q number more
leaving_out key (Listed is_spared q more) = Listed (is_spared || q == key) q more
leaving_out key (Awake is_spared q) = Awake (is_spared || q == key) q

-- this turn is to come in what is left of this round
abbrev pub before : Due → Fact → Fact
before due (Within q) = Within q
before due (Stands q number more) = Stands q number more
before due (Listed is_spared q more) = Listed is_spared q (due ∷ more)
before due (Awake is_spared q) = Awake is_spared q

-- all turns that were to come are in this list, which is what is left of this round
abbrev pub within : List Due → Fact → Fact
within list (Within q) = Within q
within list (Stands q number more) = Stands q number (list ++ more)
within list (Listed is_spared q more) = Listed is_spared q (list ++ more)
within list (Awake is_spared q) = Awake is_spared q

-- nobody is forgotten, and each turn that was to come is to come still
abbrev pub StaysWoken : {S C T : Type 0} → Open S C T → Open S C T → Type 0
StaysWoken old new = (fact : Fact) → IsTrue (is_so fact old) → IsTrue (is_so fact new)

-- each turn that was to come is to come still
abbrev pub TurnsStay : {S C T : Type 0} → Open S C T → Open S C T → Type 0
TurnsStay old new = (key number : ℕ) → IsTrue (is_so (Stands key number []) old) → IsTrue (is_so (Stands key number []) new)

-- what is so stays so, but for one connection, which may be forgotten
abbrev pub WakesOthers : {S C T : Type 0} → (key : ℕ) → Open S C T → Open S C T → Type 0
WakesOthers key old new = (fact : Fact) → IsTrue (is_so (sparing key fact) old) → IsTrue (is_so (sparing key fact) new)

-- one that might be forgotten is not any more
abbrev pub Wakes : {S C T : Type 0} → (key : ℕ) → Open S C T → Open S C T → Type 0
Wakes key old new = (fact : Fact) → IsTrue (is_so (sparing key fact) old) → IsTrue (is_so fact new)

-- one that is due has its turn
abbrev pub TakesOff : {S C T : Type 0} → (key : ℕ) → Open S C T → Open S C T → Type 0
TakesOff key old new = (fact : Fact) → IsTrue (is_so (leaving_out key fact) old) → IsTrue (is_so (sparing key fact) new)

-- it has its turn, and what follows from that
abbrev pub Serves : {S C T : Type 0} → (key : ℕ) → Open S C T → Open S C T → Type 0
Serves key old new = (fact : Fact) → IsTrue (is_so (leaving_out key fact) old) → IsTrue (is_so fact new)

-- a turn of this round is put off, had or needed no more
abbrev pub Passes : {S C T : Type 0} → Due → Open S C T → Open S C T → Type 0
Passes due old new = (fact : Fact) → IsTrue (is_so (before due fact) old) → IsTrue (is_so fact new)

-- all that were to have a turn are handed out
abbrev pub Hands : {S C T : Type 0} → List Due → Open S C T → Open S C T → Type 0
Hands list old new = (fact : Fact) → IsTrue (is_so fact old) → IsTrue (is_so (within list fact) new)

-- so is nobody, if all connections are within the keys that are looked at
abbrev pub Recalls : {S C T : Type 0} → Open S C T → Open S C T → Type 0
Recalls old new = ((key : ℕ) → IsTrue (is_so (Within key) old)) → StaysWoken old new

-- No connection is forgotten: each that can go on stands in the list of the next round, or in what is left of this one.
abbrev pub IsWoken : {S C T : Type 0} → (more : List Due) → Open S C T → Type 0
IsWoken more o = (key : ℕ) → IsTrue (is_so (Within key) o) × IsTrue (is_so (Listed false key more) o) × IsTrue (is_so (Awake false key) o)
