-- Many connections, each with its line: this project's own.
use Rattle.std.specs.Prelude.{ℕ, ◌==◌, List, [], ◌∷◌, ◌++◌, if◌then◌else◌}
use Rattle.outbox.specs.Lines.{Line, Event, after, sent_at}

-- an event and the connection that it happens to
pub record At : Type 0 where
  pub conn : ℕ
  pub event : Event

-- a connection's own events, in order
abbrev pub own : ℕ → List At → List Event
own conn [] = []
own conn (e ∷ es) = if conn == e.conn then e.event ∷ own conn es else own conn es

abbrev pub changed : (ℕ → Line) → At → ℕ → Line
changed lines e conn = if conn == e.conn then after (lines conn) e.event else lines conn

-- the lines after all events
abbrev pub run_all : (ℕ → Line) → List At → ℕ → Line
run_all lines [] = lines
run_all lines (e ∷ es) = run_all (changed lines e) es

-- what goes out to one connection
abbrev pub sent_to : ℕ → (ℕ → Line) → List At → List ℕ
sent_to conn lines [] = []
sent_to conn lines (e ∷ es) = (if conn == e.conn then sent_at (lines conn) e.event else []) ++ sent_to conn (changed lines e) es
