-- What acts do to the streams of the connections, as far as these show the bytes that moved: this project's own.
use Rattle.std.specs.Prelude.{◌≡◌, ◌≢◌, ℕ, List, [], ◌∷◌, ◌++◌, Option, Some}
use Rattle.outbox.specs.Lines.{Line, fresh, read, sent}
use Rattle.outbox.specs.Traffic.{Traffic, IsUnused, moved}
use Rattle.hub_core.specs.Acts.{Act, Opened, Turned, Closed, Drained, lines_after, all_lines_after, events_of, IsKept}

-- nothing moved yet on the stream of one that is opened; the bytes of a turn's events are those that moved on its own; other streams stay
abbrev pub Moves : (ℕ → Line) → Act → (old new : ℕ → Option Traffic) → Type 0
Moves lines (Opened conn) old new = IsUnused (new conn) × ((q : ℕ) → q ≢ conn → new q ≡ old q)
Moves lines (Turned conn events) old new = (new conn ≡ moved (read (lines conn) events) (sent (lines conn) events) (old conn)) × ((q : ℕ) → q ≢ conn → new q ≡ old q)
Moves lines (Closed conn) old new = (q : ℕ) → q ≢ conn → new q ≡ old q
Moves lines (Drained conn) old new = (q : ℕ) → q ≢ conn → new q ≡ old q

abbrev pub AllMove : (ℕ → Line) → List Act → (old new : ℕ → Option Traffic) → Type 0
AllMove lines [] old new = (q : ℕ) → new q ≡ old q
AllMove lines (act ∷ acts) old new = (mid : ℕ → Option Traffic) × Moves lines act old mid × AllMove (lines_after lines act) acts mid new

-- the bytes that moved on a stream since it was opened are those of its own events
abbrev pub ShowsAll : Option Traffic → (q : ℕ) → List Act → Type 0
ShowsAll wire q acts = (t : Traffic) → wire ≡ Some t → (t.read ≡ read fresh (events_of q acts)) × (t.written ≡ sent fresh (events_of q acts))

-- a moment in these acts, up to which a connection was opened and kept
pub record Moment (lines : ℕ → Line) (q : ℕ) (before mid behind : List Act) (old new : ℕ → Option Traffic) : Type 0 where
  pub now : ℕ → Option Traffic
  pub came : AllMove lines (before ++ Opened q ∷ mid) old now
  pub left : AllMove (all_lines_after lines (before ++ Opened q ∷ mid)) behind now new
  pub shows : ShowsAll (now q) q mid

abbrev pub WiresShow : Type 0
WiresShow = (lines : ℕ → Line) (acts : List Act) (old new : ℕ → Option Traffic) → AllMove lines acts old new
    → (q : ℕ) (before mid behind : List Act) → acts ≡ before ++ (Opened q ∷ mid ++ behind) → IsKept q mid → Moment lines q before mid behind old new
