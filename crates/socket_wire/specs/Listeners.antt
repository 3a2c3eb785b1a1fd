-- What a listener means: this project's own contract with whatever gives connections and takes them back.
use Rattle.std.specs.Prelude.{◌≡◌, List, [], ◌∷◌, ◌++◌, Option, Some, None, Bool, true}
use Rattle.std.specs.Option.{option_map}
use Rattle.path_hub.specs.Wires.{Meaning}

-- the connections that it is yet to give, those that it took back, where it keeps them, and whether it ever could give none
pub record Listening : Type 0 where
  pub waiting : List Meaning
  pub closed : Option (List Meaning)
  pub failed : Bool

-- a connection that has done nothing yet
pub record IsReady (m : Meaning) : Type 0 where
  pub failures : m.failures ≡ 0
  pub reads : m.reads ≡ 0

-- a listener that tells gives the first that waits
abbrev pub Gives : Option Listening → Meaning → Option Listening → Type 0
Gives None m new = new ≡ None
Gives (Some old) m new = (others : List Meaning) × (old.waiting ≡ m ∷ others) × (new ≡ Some (record { waiting = others; closed = old.closed; failed = old.failed }))

-- it could give none
abbrev pub Fails : Option Listening → Option Listening → Type 0
Fails None new = new ≡ None
Fails (Some old) new = new ≡ Some (record { waiting = old.waiting; closed = old.closed; failed = true })

-- it takes one back, as it is then
abbrev pub and_closed : Meaning → Option (List Meaning) → Option (List Meaning)
and_closed m closed = option_map (λ links. links ++ m ∷ []) closed

abbrev pub Closes : Option Listening → Meaning → Option Listening → Type 0
Closes None m new = new ≡ None
Closes (Some old) m new = new ≡ Some (record { waiting = old.waiting; closed = and_closed m old.closed; failed = old.failed })
